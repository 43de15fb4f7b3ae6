-- The hash of a text.
use Rattle.std.specs.Prelude.{ℕ, ◌+◌, ◌*◌, ◌%◌, ◌^◌, List, fold}

-- each byte b takes the hash h to 31 * h + b, modulo 2 ^ 64
abbrev pub hash_after : ℕ → List ℕ → ℕ
hash_after h bytes = fold (λ h b. (h * 31 + b) % 2 ^ 64) h bytes

-- from 0 on
abbrev pub text_hash : List ℕ → ℕ
text_hash bytes = hash_after 0 bytes
