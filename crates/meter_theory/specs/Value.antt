-- The parts of values that the definitions look at, and what may stand in a settable cell.
use Rattle.std.specs.Prelude.{ℕ, ◌==◌, nat_le, Bool, true, ◌&&◌, List, [], length}
use Rattle.std.specs.List.{list_all, list_any}
use Rattle.cosem_data.specs.Tree.{Tree, array, structure, double_long_unsigned, trees, parts, depth}
use Rattle.cosem_data.specs.Kinds.{kind_of, same_kind}
use Rattle.cosem_data.specs.Equal.{same_tree}
use Rattle.cosem_data.specs.declared.kind.Kind.{Kind}
use Rattle.cosem_data.specs.declared.kind.Kind.TheVariants.{Array, OctetString}
use Rattle.cosem_axdr.specs.Canonical.{canonical}
use Rattle.meter_theory.specs.declared.limits.TheConstants as limits
use Rattle.meter_theory.specs.Times.{are_execution_times, is_clock_time}

abbrev pub array_of : List Tree → Tree
array_of vs = array (trees vs)

abbrev pub structure_of : List Tree → Tree
structure_of vs = structure (trees vs)

-- the elements of an array
abbrev pub elements : Tree → List Tree
elements (array vs) = parts vs
elements _ = []

-- the number of a double-long-unsigned
abbrev pub count_of : Tree → ℕ
count_of (double_long_unsigned n) = n
count_of _ = 0

abbrev pub counter : ℕ → Tree
counter n = double_long_unsigned n

-- no more bytes when encoded than a limit, and nested no deeper (own profile)
abbrev pub is_within_limits : Tree → Bool
is_within_limits v = nat_le (length (canonical v)) limits.VALUE_BYTES && nat_le (depth v) limits.VALUE_LEVELS

-- What may stand in a settable cell.
pub data Rule : Type 0 where
  -- a value of this kind (value of Data and of Register, capture_period)
  OfKind : Kind → Rule
  -- an array of so many values of this kind (thresholds of a register monitor)
  Thresholds : (number : ℕ) → Kind → Rule
  -- an array of times and dates that fits this type (execution_time of a single action schedule)
  ExecutionTimes : (type : ℕ) → Rule
  -- what a clock may be set to (time of a clock)
  ClockTime : Rule
  -- one of these values, which are of this kind (capture_objects of a profile and executed_script of a single action
  -- schedule that have a menu, own profile)
  OneOf : Kind → (values : List Tree) → Rule

-- the value has the tag that the rule asks for
abbrev pub valid_tag : Rule → Tree → Bool
valid_tag (OfKind kind) v = same_kind (kind_of v) kind
valid_tag (Thresholds number kind) v = same_kind (kind_of v) Array
valid_tag (ExecutionTimes type) v = same_kind (kind_of v) Array
valid_tag ClockTime v = same_kind (kind_of v) OctetString
valid_tag (OneOf kind values) v = same_kind (kind_of v) kind

-- so many values of this kind
abbrev pub are_thresholds : ℕ → Kind → List Tree → Bool
are_thresholds number kind vs = (length vs == number) && list_all (λ v. same_kind (kind_of v) kind) vs

-- what stands behind the tag is what the rule asks for
abbrev pub valid_content : Rule → Tree → Bool
valid_content (OfKind kind) v = true
valid_content (Thresholds number kind) v = are_thresholds number kind (elements v)
valid_content (ExecutionTimes type) v = are_execution_times type (elements v)
valid_content ClockTime v = is_clock_time v
valid_content (OneOf kind values) v = list_any (λ w. same_tree w v) values

-- The value may be put into a cell with this rule.
abbrev pub meets : Rule → Tree → Bool
meets rule v = valid_tag rule v && (is_within_limits v && valid_content rule v)
