-- What a decoder makes of a body without a bad escape.
use Rattle.std.specs.Prelude.{ℕ, zero, suc, ◌+◌, ◌*◌, ◌-◌, ◌==◌, if◌then◌else◌, List, [], ◌∷◌, ◌++◌, take, drop, unwrap_or, encode_utf8}
use Rattle.std.specs.Result.{result_unwrap_or}
use Rattle.sj_base.specs.Characters.{short_character, hex_value}
use Rattle.sj_parse.specs.Escapes.{escape, is_high_surrogate}

-- the character of an escape whose letter and the bytes behind it are these
abbrev pub escaped_character : List ℕ → ℕ
escaped_character [] = 0
escaped_character (letter ∷ bs) =
    if letter == 0x75 then
    (if is_high_surrogate (hex_value (take 4 bs))
    then 0x10000 + (hex_value (take 4 bs) - 0xd800) * 0x400 + (hex_value (take 4 (drop 6 bs)) - 0xdc00)
    else hex_value (take 4 bs))
    else unwrap_or (short_character letter) 0

-- the text of a body, behind so many bytes that belong to an escape before
abbrev pub decoded_behind : ℕ → List ℕ → List ℕ
decoded_behind n [] = []
decoded_behind (suc n) (b ∷ bs) = decoded_behind n bs
decoded_behind zero (b ∷ bs) =
    if b == 0x5c then encode_utf8 (escaped_character bs) ++ decoded_behind (result_unwrap_or (escape bs) 0) bs
    else b ∷ decoded_behind zero bs

abbrev pub decoded : List ℕ → List ℕ
decoded body = decoded_behind 0 body
