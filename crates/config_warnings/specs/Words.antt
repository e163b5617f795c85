-- What is told of a warning, and where it stands. All of it is own profile. Texts are lists of bytes.
use Rattle.std.specs.Prelude.{ℕ, List, ◌++◌, codes}
use Rattle.std.specs.Fmt.{decimal}
use Rattle.config_warnings.specs.declared.warning.Warning.{Warning}
use Rattle.config_warnings.specs.declared.warning.Warning.TheVariants.{NoSuchDate, NoRight, NeverRun}

-- an element of an array of the text, as `object[5]`
abbrev pub element : List ℕ → (place : ℕ) → List ℕ
element array place = array ++ (codes "[" ++ (decimal place ++ codes "]"))

-- the path to what the warning is of
abbrev pub path_of : Warning → List ℕ
path_of (NoSuchDate object time) = element (codes "object") object ++ element (codes ".times") time
path_of (NoRight client) = element (codes "client") client ++ codes ".name"
path_of (NeverRun object script) = element (codes "object") object ++ (element (codes ".script") script ++ codes ".id")

-- what is told of it
abbrev pub words_of : Warning → List ℕ
words_of (NoSuchDate object time) = codes "no calendar has this date"
words_of (NoRight client) = codes "the client has no right"
words_of (NeverRun object script) = codes "nothing runs this script"
