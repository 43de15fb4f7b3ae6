use Rattle.std.proofs.Common.{◌≡◌, ◌⊎◌, inl, inr, refl, List, [], ◌∷◌, length}

-- Where one of two lists of one length ends, both do.
pub both_end : {A B X Y : Type 0} {P : X → Type 0} {Q : Y → Type 0} (vs : List A) (ws : List B) → length vs ≡ length ws → ((x : X) × ((length vs ≡ 0) × P x)) ⊎ ((y : Y) × ((length ws ≡ 0) × Q y)) → (vs ≡ []) × (ws ≡ [])
both_end [] [] len ends = (refl, refl)
both_end (v ∷ vs) (w ∷ ws) len (inl (x, (none, p))) = cc
both_end (v ∷ vs) (w ∷ ws) len (inr (y, (none, q))) = cc
both_end [] (w ∷ ws) len ends = cc
both_end (v ∷ vs) [] len ends = cc
