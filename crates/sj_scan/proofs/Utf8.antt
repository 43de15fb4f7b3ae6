-- ASCII bytes behind a text leave it UTF-8, or not.
use Rattle.std.proofs.Common.{◌≡◌, ℕ, ◌<◌, Bool, true, false, List, ◌++◌, length, replicate, refl, sym, subst, arith, ◌↔◌, IsTrue, take_at}
use Rattle.std.specs.Str.{IsUtf8, IsAscii, is_utf8}
use Rattle.std.proofs.lemmas.Str.{IsUtf8-append, IsUtf8-from_ascii, IsUtf8-take, IsCharBoundary-at_seam, IsUtf8-from_is_utf8, is_utf8-from_IsUtf8}
use Rattle.std.proofs.lemmas.Str.Ascii.{IsAscii-from_all}
use Rattle.std.proofs.lemmas.List.Elements.{All-replicate}

pub IsAscii-spaces : (n : ℕ) → IsAscii (replicate n 0x20)
IsAscii-spaces n = IsAscii-from_all (replicate n 0x20) (All-replicate (λ b. b < 128) n 0x20 (omega arith))

decided : (bytes : List ℕ) (answer : Bool) → (IsTrue answer ↔ IsUtf8 bytes) → answer ≡ is_utf8 bytes
decided bytes true says = sym (is_utf8-from_IsUtf8 bytes (says.0 refl))
decided bytes false says = go (is_utf8 bytes) (λ is. says.1 (IsUtf8-from_is_utf8 bytes is))
  where
    go : (b : Bool) → (b ≡ true → false ≡ true) → false ≡ b
    go true means = means refl
    go false means = refl

module _ (front back : List ℕ) (ascii : IsAscii back) where
  IsUtf8-front : IsUtf8 (front ++ back) → IsUtf8 front
  IsUtf8-front whole =
      let seam = IsCharBoundary-at_seam (front ++ back) front back refl (IsUtf8-from_ascii back ascii) in
      subst IsUtf8 (take_at front back (length front) refl) (IsUtf8-take (front ++ back) (length front) whole seam)

  IsUtf8-whole : IsUtf8 front → IsUtf8 (front ++ back)
  IsUtf8-whole is = IsUtf8-append front back is (IsUtf8-from_ascii back ascii)

  pub is_utf8-front : (answer : Bool) → (IsTrue answer ↔ IsUtf8 (front ++ back)) → answer ≡ is_utf8 front
  is_utf8-front answer says = decided front answer (λ is. IsUtf8-front (says.0 is), λ is. says.1 (IsUtf8-whole is))

  pub is_utf8-whole : (answer : Bool) → (IsTrue answer ↔ IsUtf8 front) → answer ≡ is_utf8 (front ++ back)
  is_utf8-whole answer says = decided (front ++ back) answer (λ is. IsUtf8-whole (says.0 is), λ is. says.1 (IsUtf8-front is))
