-- "Kinds: 0 null, 1 void, 2 short, 3 long, 4 unsigned short, ..": their numbers, by name.
--   run_kind            "octet runs 256", of an item alone
--   indirection_kind    "kind FFFFFFFF is an indirection"
--   kinds_limit         "at most 64 kinds"
use Rattle.choices.specs.{ℕ}

abbrev pub null_kind : ℕ
null_kind = 0

abbrev pub void_kind : ℕ
void_kind = 1

abbrev pub short_kind : ℕ
short_kind = 2

abbrev pub long_kind : ℕ
long_kind = 3

abbrev pub unsigned_short_kind : ℕ
unsigned_short_kind = 4

abbrev pub unsigned_long_kind : ℕ
unsigned_long_kind = 5

abbrev pub float_kind : ℕ
float_kind = 6

abbrev pub double_kind : ℕ
double_kind = 7

abbrev pub boolean_kind : ℕ
boolean_kind = 8

abbrev pub char_kind : ℕ
char_kind = 9

abbrev pub octet_kind : ℕ
octet_kind = 10

abbrev pub objref_kind : ℕ
objref_kind = 14

abbrev pub struct_kind : ℕ
struct_kind = 15

abbrev pub union_kind : ℕ
union_kind = 16

abbrev pub enum_kind : ℕ
enum_kind = 17

abbrev pub string_kind : ℕ
string_kind = 18

abbrev pub sequence_kind : ℕ
sequence_kind = 19

abbrev pub array_kind : ℕ
array_kind = 20

abbrev pub alias_kind : ℕ
alias_kind = 21

abbrev pub exception_kind : ℕ
exception_kind = 22

abbrev pub long_long_kind : ℕ
long_long_kind = 23

abbrev pub unsigned_long_long_kind : ℕ
unsigned_long_long_kind = 24

abbrev pub run_kind : ℕ
run_kind = 256

abbrev pub indirection_kind : ℕ
indirection_kind = 4294967295

abbrev pub kinds_limit : ℕ
kinds_limit = 64
