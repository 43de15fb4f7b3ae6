-- What equals a scalar is a scalar.
use Rattle.std.specs.Prelude.{◌≡◌, IsSome}
use Rattle.std.proofs.Common.{sym, subst}
use Rattle.sj_base.specs.Containers.{scalar_in}
use Rattle.sj_base.specs.Tree.{Tree}

pub alone : {X : Type 0} (tree : X → Tree) → ((x : X) → IsSome (scalar_in (tree x))) → (x : X) (t : Tree) → t ≡ tree x → IsSome (scalar_in t)
alone tree is_scalar x t is = subst (λ (u : Tree). IsSome (scalar_in u)) (sym is) (is_scalar x)
