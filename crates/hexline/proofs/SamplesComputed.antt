-- Lines and octets with the number and the output that they give, computed.
use mathlib.Core.Path.{◌≡◌, refl}
use mathlib.Core.List.{List, [], ◌∷◌}
use Prim.Native.Nat.{ℕ}
use lib.ListN.{length}
use Rattle.hexline.specs.Digit.{is_digit, digit_value, upper_digit}
use Rattle.hexline.specs.Decoding.{all_digits, octet_of, line_octets, digits_decoded, decoded_of, decoded_into, decoded_number}
use Rattle.hexline.specs.Encoding.{octet_digits, encoded_of, encoded_into, encoded_number}

abbrev decoded : List ℕ → List ℕ → ℕ × List ℕ
decoded line out = (decoded_number (decoded_of line (length out)), decoded_into (decoded_of line (length out)) line out)

abbrev encoded : List ℕ → List ℕ → ℕ × List ℕ
encoded octets out = (encoded_number (encoded_of octets (length out)), encoded_into (encoded_of octets (length out)) octets out)

-- 09AF, 09af, aFfA; the empty line, an odd count, no room; the neighbours of the digits: / : @ G ` g;
-- 09AF written, and no room for it
pub samples :
    (decoded (48 ∷ 57 ∷ 65 ∷ 70 ∷ []) (1 ∷ 2 ∷ 3 ∷ []) ≡ (0, 0x09 ∷ 0xAF ∷ 3 ∷ []))
    × (decoded (48 ∷ 57 ∷ 97 ∷ 102 ∷ []) (1 ∷ 2 ∷ 3 ∷ []) ≡ (0, 0x09 ∷ 0xAF ∷ 3 ∷ []))
    × (decoded (97 ∷ 70 ∷ 102 ∷ 65 ∷ []) (1 ∷ 2 ∷ []) ≡ (0, 0xAF ∷ 0xFA ∷ []))
    × (decoded [] (1 ∷ []) ≡ (0, 1 ∷ []))
    × (decoded (48 ∷ 57 ∷ 65 ∷ []) (1 ∷ 2 ∷ []) ≡ (11, 1 ∷ 2 ∷ []))
    × (decoded (48 ∷ 57 ∷ 65 ∷ 70 ∷ []) (1 ∷ []) ≡ (27, 1 ∷ []))
    × (decoded (48 ∷ 47 ∷ []) (1 ∷ []) ≡ (11, 1 ∷ []))
    × (decoded (48 ∷ 58 ∷ []) (1 ∷ []) ≡ (11, 1 ∷ []))
    × (decoded (64 ∷ 48 ∷ []) (1 ∷ []) ≡ (11, 1 ∷ []))
    × (decoded (71 ∷ 48 ∷ []) (1 ∷ []) ≡ (11, 1 ∷ []))
    × (decoded (96 ∷ 48 ∷ []) (1 ∷ []) ≡ (11, 1 ∷ []))
    × (decoded (48 ∷ 103 ∷ []) (1 ∷ []) ≡ (11, 1 ∷ []))
    × (encoded (0x09 ∷ 0xAF ∷ []) (1 ∷ 2 ∷ 3 ∷ 4 ∷ 5 ∷ []) ≡ (0, 48 ∷ 57 ∷ 65 ∷ 70 ∷ 5 ∷ []))
    × (encoded (0x09 ∷ 0xAF ∷ []) (1 ∷ 2 ∷ 3 ∷ []) ≡ (27, 1 ∷ 2 ∷ 3 ∷ []))
unfolding is_digit digit_value upper_digit all_digits octet_of line_octets digits_decoded decoded_of octet_digits encoded_of
samples = (refl, refl, refl, refl, refl, refl, refl, refl, refl, refl, refl, refl, refl, refl)
