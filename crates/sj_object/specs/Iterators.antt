-- What is left in the iterators over objects.
use Rattle.std.specs.Prelude.{List, map}
use Rattle.std.specs.Borrow.{Bor}
use Rattle.std.specs.Vec.Iter.{into_iter_items}
use Rattle.sj_object.specs.declared.entry.Entry.{Entry}
use Rattle.sj_object.specs.declared.iter.IntoIter.{IntoIter}
use Rattle.sj_object.specs.declared.iter.Iter.{Iter}
use Rattle.sj_object.specs.declared.iter.Keys.{Keys}
use Rattle.sj_object.specs.declared.iter.Values.{Values}

module _ {K V : Type 0} where
  -- the pairs that are left
  abbrev pub entries_left : Iter K V → List (Entry K V)
  entries_left it = it.rest.now

  -- the pair that two references show
  abbrev pub pair_entry : Bor K × Bor V → Entry K V
  pair_entry p = record { key = p.0.now; value = p.1.now }

  -- the keys that are left
  abbrev pub keys_left : Keys K V → List K
  keys_left it = map (λ e. e.key) (entries_left it.pairs)

  -- the values that are left
  abbrev pub values_left : Values K V → List V
  values_left it = map (λ e. e.value) (entries_left it.pairs)

  -- the pairs that are left to be moved out
  abbrev pub owned_left : IntoIter K V → List (Entry K V)
  owned_left it = into_iter_items it.entries

  abbrev pub owned_entry : K × V → Entry K V
  owned_entry p = record { key = p.0; value = p.1 }
