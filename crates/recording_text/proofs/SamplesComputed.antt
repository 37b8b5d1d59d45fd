-- The definitions at small inputs, computed.
use Rattle.std.proofs.Common.{◌≡◌, ℕ, true, false, List, [], ◌∷◌, take, replicate, refl}
use Rattle.choices.specs.Branch.{choose}
use Rattle.cdr.specs.declared.Order.TheVariants.{Big}
use Rattle.cdr.specs.Number.{little_number, little_octets, number_of, octets_of, number_at}
use Rattle.version.specs.Versions.{major_exists, minor_exists, flags_allowed, type_exists, body_starts_with_id, reads_fragments}
use Rattle.frame.specs.Messages.{version_exists, is_request_or_reply, is_bare, has_request_id}
use Rattle.frame.specs.Frames.{size_allowed, fragment_allowed, eights_allowed, sized_of, message_of, frame_of}
use Rattle.hexline.specs.Digit.{is_digit, digit_value, upper_digit}
use Rattle.hexline.specs.Decoding.{octet_of, all_digits, line_octets, digits_decoded, decoded_of}
use Rattle.hexline.specs.Encoding.{octet_digits}
use Rattle.join_message.specs.Message.{corrected}
use Rattle.join_steps.specs.Steps.{differs, continued, first_of, with_id, message_step, step_of}
use Rattle.lines.specs.Lines.{lines_from}
use Rattle.join_places.specs.Places.{places_size, sum_over, some_with, first_with, is_open_with, place_of_id, lowest_free, open_count}
use Rattle.join_places.specs.Places.{both_open, open_before, id_open_twice, length_wrong, some_length_wrong, bad_record}
use Rattle.decimals.specs.Decimal.{decimal_within, decimal}
use Rattle.recording_text.specs.Text.{line_text, end_text}
use Rattle.recording_text.specs.Listing.{entry_of, listing_from, listing_of}

-- the numbers 0, 10 and the largest machine word; three places open; no line; a line `G` and one of a single digit, neither with an end
pub samples :
    (decimal 0 ≡ 48 ∷ [])
    × (decimal 10 ≡ 49 ∷ 48 ∷ [])
    × (decimal 18446744073709551615 ≡ 49 ∷ 56 ∷ 52 ∷ 52 ∷ 54 ∷ 55 ∷ 52 ∷ 52 ∷ 48 ∷ 55 ∷ 51 ∷ 55 ∷ 48 ∷ 57 ∷ 53 ∷ 53 ∷ 49 ∷ 54 ∷ 49 ∷ 53 ∷ [])
    × (open_count (record { ids = []; lengths = []; opened = true ∷ false ∷ true ∷ true ∷ [] }) ≡ 3)
    × (listing_of [] [] ≡ 101 ∷ 110 ∷ 100 ∷ 32 ∷ 48 ∷ 32 ∷ 48 ∷ 10 ∷ [])
    × (listing_of [] (71 ∷ 10 ∷ 52 ∷ [])
    ≡ 49 ∷ 32 ∷ 49 ∷ 49 ∷ 32 ∷ 45 ∷ 10 ∷ 50 ∷ 32 ∷ 49 ∷ 49 ∷ 32 ∷ 45 ∷ 10 ∷ 101 ∷ 110 ∷ 100 ∷ 32 ∷ 50 ∷ 32 ∷ 48 ∷ 10 ∷ [])
unfolding choose is_digit all_digits digits_decoded decoded_of lines_from decimal_within line_text end_text entry_of sum_over open_count listing_from listing_of
samples = (refl, refl, refl, refl, refl, refl)

-- "Whole example, input", and "output", as characters; the places hold zeros, as the program lends them
abbrev input : List ℕ
input = octets_of Big 73 0x34373439344635303031303230323030303030303030303430303030303030390A3437343934463530303130323030303730303030303030363030303030303039414243440A34370A

abbrev output : List ℕ
output = octets_of Big 62 0x312031202D0A322032203437343934463530303130323030303030303030303030363030303030303039414243440A33203132202D0A656E64203320300A

-- with its last LF, and without
pub whole-example : (listing_of (replicate places_size 0) input ≡ output) × (listing_of (replicate places_size 0) (take 72 input) ≡ output)
unfolding choose little_number little_octets number_of octets_of number_at major_exists minor_exists version_exists flags_allowed type_exists body_starts_with_id
    reads_fragments is_request_or_reply is_bare has_request_id size_allowed fragment_allowed eights_allowed sized_of message_of frame_of sum_over some_with
    first_with is_open_with place_of_id lowest_free open_count both_open open_before id_open_twice length_wrong some_length_wrong bad_record corrected differs
    continued first_of with_id message_step step_of is_digit digit_value octet_of all_digits line_octets digits_decoded decoded_of upper_digit octet_digits
    lines_from decimal_within line_text end_text entry_of listing_from listing_of
whole-example = (refl, refl)
