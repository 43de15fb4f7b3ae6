use Rattle.std.proofs.Common.{◌≡◌, length}
use Rattle.sj_object.specs.Hash.{hash_after, text_hash}
use Rattle.sj_object.proofs.hash.hash_key.Given as goal

abbrev pub invariant-loop-bytes : goal.invariant-loop-bytes
invariant-loop-bytes l = record {
  hash : hash_after l.hash l.rest ≡ text_hash l.key;
}

abbrev pub decreases-loop-bytes : goal.decreases-loop-bytes
decreases-loop-bytes l = length l.rest
