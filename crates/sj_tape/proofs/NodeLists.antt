-- Entries of nodes, by place.
use Rattle.std.proofs.Common.{◌≡◌, ℕ, ◌+◌, ◌<◌, List, ◌∷◌, drop, get_or, length, sym, ◌∙◌, ap, subst}
use Rattle.std.proofs.lemmas.List.{drop_more, get_or-map, length-map}
use Rattle.sj_tape.specs.Listing.{Entry}
use Rattle.sj_tape.specs.Nodes.{node_entry, entries}
use Rattle.sj_tape.specs.declared.node.Node.{Node}

pub length-entries : (ns : List Node) → length (entries ns) ≡ length ns
length-entries ns = length-map ns node_entry

pub entries_at : (ns : List Node) (i : ℕ) (x : Node) → i < length ns → x ≡ get_or ns i x → drop i (entries ns) ≡ node_entry x ∷ drop (i + 1) (entries ns)
entries_at ns i x h is =
    let within : i < length (entries ns) = subst (λ (n : ℕ). i < n) (sym (length-entries ns)) h in
    drop_more (entries ns) i (node_entry x) within ∙ ap (λ (e : Entry). e ∷ drop (i + 1) (entries ns)) (get_or-map node_entry ns i x (node_entry x) h ∙ ap node_entry (sym is))
