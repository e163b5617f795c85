-- The codes of causes (own profile): each is looked for in the whole text before the next.
use Rattle.std.specs.Prelude.{ℕ}
use Rattle.config_text.specs.declared.cause.Cause.{Cause}
use Rattle.config_text.specs.declared.cause.Cause.TheVariants as causes

abbrev pub code_of : Cause → ℕ
code_of (causes.NotToml stop) = 1
code_of causes.KeyMissing = 2
code_of (causes.KeyUnknown near) = 2
code_of (causes.Kind takes) = 3
code_of causes.LogicalForm = 4
code_of (causes.ClientForm version) = 4
code_of causes.ObjectTwice = 5
code_of causes.Association = 5
code_of (causes.ClassUnknown version) = 6
code_of (causes.ClientUnknown later) = 7
code_of causes.ClientTwice = 8
code_of causes.SapTwice = 8
code_of causes.NoObject = 9
code_of causes.NoScriptTable = 9
code_of (causes.NoScript later) = 9
code_of (causes.Index wanted class) = 10
code_of (causes.Value kind) = 11
code_of (causes.Rule rule) = 11
code_of causes.Moment = 11
code_of causes.ExecutionTime = 11
code_of causes.NoNumber = 11
code_of (causes.NotSettable class) = 12
code_of causes.Counts = 13
code_of causes.ScriptZero = 14
code_of causes.ScriptTwice = 14
code_of causes.Execute = 15
code_of (causes.Limit limit) = 16
code_of (causes.NoCell class) = 17
code_of causes.LabelTwice = 17
code_of causes.Fed = 18
code_of (causes.Times type) = 19
code_of causes.SortMethod = 20
code_of causes.DataIndex = 20
code_of causes.SecondClock = 21
code_of causes.AlternativeTwice = 22
