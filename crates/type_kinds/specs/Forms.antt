-- "Kinds: 0 null, 1 void, 2 short, ..": which kinds there are, and what follows each.
--   form_of    nothing follows 0 to 10, 23 and 24; "kind 18 is followed by a bound"; "kinds 14 to 17 and 19 to 22 are followed
--                      by an encapsulation", whose layout is the kind's own; no other kind is listed
use Rattle.std.specs.Prelude.{◌+◌}
use Rattle.choices.specs.{ℕ, cond, ltb, eqb}
use Rattle.type_numbers.specs.Kinds.{octet_kind, objref_kind, struct_kind, union_kind, enum_kind, string_kind, sequence_kind, array_kind}
use Rattle.type_numbers.specs.Kinds.{alias_kind, exception_kind, long_long_kind, unsigned_long_long_kind}
use Rattle.type_kinds.specs.Names.{Form, Unlisted, Plain, Bounded, Composite}
use Rattle.type_kinds.specs.declared.Layout.TheVariants.{Objref, Struct, Union, Enum, Sequence, Array, Alias, Exception}

unfoldable pub form_of : ℕ → Form
form_of kind =
    cond (ltb kind (octet_kind + 1)) Plain
    (cond (eqb kind objref_kind) (Composite Objref)
    (cond (eqb kind struct_kind) (Composite Struct)
    (cond (eqb kind union_kind) (Composite Union)
    (cond (eqb kind enum_kind) (Composite Enum)
    (cond (eqb kind string_kind) Bounded
    (cond (eqb kind sequence_kind) (Composite Sequence)
    (cond (eqb kind array_kind) (Composite Array)
    (cond (eqb kind alias_kind) (Composite Alias)
    (cond (eqb kind exception_kind) (Composite Exception)
    (cond (eqb kind long_long_kind) Plain
    (cond (eqb kind unsigned_long_long_kind) Plain
    Unlisted)))))))))))
