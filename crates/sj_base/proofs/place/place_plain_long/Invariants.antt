use Rattle.std.proofs.Common.{◌≡◌, ◌+◌, ◌-◌, ◌<◌, ◌++◌, length, take}
use Rattle.sj_base.specs.inside.Plain.{IsPlain}
use Rattle.sj_base.proofs.place.place_plain_long.Given as goal

-- the bytes before `done` are stored, and need no escape
abbrev pub invariant-loop-done : goal.invariant-loop-done
invariant-loop-done l =
    (l.done < length l.text) × (take (l.at + l.done) l.buf ≡ take l.at l.initial.buf ++ take l.done l.text) × (length l.buf ≡ length l.initial.buf)
    × IsPlain l.text 0 l.done

abbrev pub decreases-loop-done : goal.decreases-loop-done
decreases-loop-done l = length l.text - l.done
