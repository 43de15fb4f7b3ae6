use Rattle.std.specs.Prelude.{◌≡◌, ◌+◌, ◌-◌}
use Rattle.std.proofs.Common.{◌∙◌, arith}
use Rattle.sj_parse.proofs.DigitWords.{Word, word_of_digits}
use Rattle.sj_parse.proofs.digits.value_of_word.Goals as goal
use Rattle.sj_parse.proofs.digits.value_of_word.Goals.{After-from_le_bytes-numbers}

word : (c : After-from_le_bytes-numbers) → Word c.args.digits
word c = word_of_digits c.args.digits (omega arith) c.requires

-- The word of the bytes is that of the numbers and that of eight zeros.
bytes : (c : After-from_le_bytes-numbers) → c.from_le_bytes-numbers.result ≡ (word c).numbers + 0x3030303030303030
bytes c = c.from_le_bytes-numbers.ensures ∙ (word c).bytes_are

pub overflow_sub-numbers : goal.overflow_sub-numbers
overflow_sub-numbers c = omega (arith, bytes c)

pub overflow_mul-pairs : goal.overflow_mul-pairs
overflow_mul-pairs c = let below = (word c).steps.word_below in omega (arith, bytes c, below)

pub overflow_add-pairs : goal.overflow_add-pairs
overflow_add-pairs c = let below = (word c).steps.word_below in omega (arith, bytes c, below)

pub returns : goal.returns
returns c =
    let steps = (word c).steps in
    let numbers : c.from_le_bytes-numbers.result - 0x3030303030303030 ≡ (word c).numbers = omega (arith, bytes c) in
    rw (numbers, steps.pairs_are, steps.fours_are) steps.value_is
