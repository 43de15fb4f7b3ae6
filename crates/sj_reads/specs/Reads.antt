-- Results of typed reads. A value is seen as its tree if it is a scalar, and else as nothing.
use Rattle.std.specs.Prelude.{ℕ, ℤ, pos, negsuc, ◌^◌, Bool, cond, nat_lt, List, Option, Some, None, option_and_then}
use Rattle.sj_base.specs.Tree.{Tree, null, boolean, integer, decimal, string}
use Rattle.sj_base.specs.declared.fault.TryTypeError.{TryTypeError}
use Rattle.sj_base.specs.declared.static_node.ValueType.{ValueType}

abbrev pub null_read : Option Tree → Option (Unit {0})
null_read (Some null) = Some tt
null_read _ = None

abbrev pub bool_read : Option Tree → Option Bool
bool_read (Some (boolean b)) = Some b
bool_read _ = None

abbrev pub integer_read : Option Tree → Option ℤ
integer_read (Some (integer n)) = Some n
integer_read _ = None

abbrev pub str_read : Option Tree → Option (List ℕ)
str_read (Some (string s)) = Some s
str_read _ = None

abbrev pub decimal_read : Option Tree → Option (List ℕ)
decimal_read (Some (decimal literal)) = Some literal
decimal_read _ = None

-- the integer, if it lies from -2^k to 2^k - 1; `negsuc n` is -(n + 1)
abbrev pub signed_fit : ℕ → ℤ → Option ℤ
signed_fit k (pos n) = cond (nat_lt n (2 ^ k)) (Some (pos n)) None
signed_fit k (negsuc n) = cond (nat_lt n (2 ^ k)) (Some (negsuc n)) None

-- the integer, if it lies from 0 to 2^k - 1
abbrev pub unsigned_fit : ℕ → ℤ → Option ℕ
unsigned_fit k (pos n) = cond (nat_lt n (2 ^ k)) (Some n) None
unsigned_fit k (negsuc n) = None

-- the integer, if the value is one that fits k bits and a sign
abbrev pub signed_read : ℕ → Option Tree → Option ℤ
signed_read k s = option_and_then (signed_fit k) (integer_read s)

-- the integer, if the value is one that fits k bits
abbrev pub unsigned_read : ℕ → Option Tree → Option ℕ
unsigned_read k s = option_and_then (unsigned_fit k) (integer_read s)

-- the error of a read that asked for one type and met another
abbrev pub mismatch : ValueType → ValueType → TryTypeError
mismatch expected got = record { expected = expected; got = got }
