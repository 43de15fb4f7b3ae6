-- The characters that the body of a string stands for (RFC 8259, section 7; UTF-8 by RFC 3629).
use Rattle.std.specs.Prelude.{◌≡◌, ◌≢◌, ℕ, ◌+◌, ◌-◌, ◌*◌, ◌≤◌, cond, ◌==◌, List, [], ◌∷◌, ◌++◌, length, Option, Some, None, IsSome, unwrap_or, encode_utf8, flat_map}
use Rattle.std.specs.List.{AllByRecursion}
use Rattle.std.specs.Char.{IsScalar}
use Rattle.std.specs.Int.{IsInRange}
use Rattle.std.specs.Str.Parse.{AllDigits, digits_value}

-- One character, as it is written in a body.
pub data CharacterForm : Type 0 where
  raw : ℕ → CharacterForm  -- the character itself
  short : ℕ → CharacterForm  -- a backslash and a letter
  unit : List ℕ → CharacterForm  -- a backslash, `u` and four digits
  pair : List ℕ → List ℕ → CharacterForm  -- two of those, a high and a low surrogate

-- the character of an escape by one letter: `"`, `\`, `/`, `b`, `f`, `n`, `r`, `t`
abbrev pub short_character : ℕ → Option ℕ
short_character letter =
    cond (letter == 0x22) (Some 0x22)
    (cond (letter == 0x5c) (Some 0x5c)
    (cond (letter == 0x2f) (Some 0x2f)
    (cond (letter == 0x62) (Some 0x08)
    (cond (letter == 0x66) (Some 0x0c)
    (cond (letter == 0x6e) (Some 0x0a)
    (cond (letter == 0x72) (Some 0x0d)
    (cond (letter == 0x74) (Some 0x09) None)))))))

-- four hexadecimal digits of either case, and their number
abbrev pub IsHex : List ℕ → Type 0
IsHex ds = (length ds ≡ 4) × AllDigits 16 ds

abbrev pub hex_value : List ℕ → ℕ
hex_value ds = digits_value 16 ds

-- The form is allowed. A surrogate outside a pair isn't.
abbrev pub IsCharacterForm : CharacterForm → Type 0
IsCharacterForm (raw c) = IsScalar c × (0x20 ≤ c) × (c ≢ 0x22) × (c ≢ 0x5c)
IsCharacterForm (short letter) = IsSome (short_character letter)
IsCharacterForm (unit ds) = IsHex ds × IsScalar (hex_value ds)
IsCharacterForm (pair high low) = IsHex high × IsHex low × IsInRange 0xd800 0xdbff (hex_value high) × IsInRange 0xdc00 0xdfff (hex_value low)

abbrev pub form_bytes : CharacterForm → List ℕ
form_bytes (raw c) = encode_utf8 c
form_bytes (short letter) = 0x5c ∷ letter ∷ []
form_bytes (unit ds) = 0x5c ∷ 0x75 ∷ ds
form_bytes (pair high low) = 0x5c ∷ 0x75 ∷ (high ++ 0x5c ∷ 0x75 ∷ low)

abbrev pub form_character : CharacterForm → ℕ
form_character (raw c) = c
form_character (short letter) = unwrap_or (short_character letter) 0
form_character (unit ds) = hex_value ds
form_character (pair high low) = 0x10000 + (hex_value high - 0xd800) * 0x400 + (hex_value low - 0xdc00)

-- The body is a sequence of forms, and the text is their characters in UTF-8.
pub record Means (body text : List ℕ) : Type 0 where
  pub forms : List CharacterForm
  pub are_forms : AllByRecursion IsCharacterForm forms
  pub shown : body ≡ flat_map form_bytes forms
  pub meant : text ≡ flat_map (λ r. encode_utf8 (form_character r)) forms
