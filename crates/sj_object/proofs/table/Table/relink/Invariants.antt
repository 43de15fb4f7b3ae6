use Rattle.std.proofs.Common.{◌≡◌, ◌<◌, ℕ, List, length, take, vec_capacity}
use Rattle.sj_object.specs.inside.Chains.{AreChained, HaveHashes}
use Rattle.sj_object.proofs.table.Table.relink.Given as goal

abbrev pub invariant-loop-place : goal.invariant-loop-place
invariant-loop-place l =
    (0 < length l.self.heads.items)
    × (length l.self.links.items ≡ length l.fn.self.links.items)
    × (vec_capacity l.self.links ≡ vec_capacity l.fn.self.links)
    × ((ks : List (List ℕ)) → HaveHashes l.fn.self.links.items ks → HaveHashes l.self.links.items ks × AreChained l.self.heads.items (take l.place l.self.links.items) (take l.place ks))
