-- What reading a file comes to, and what is told of one that isn't read.
use Rattle.std.specs.Prelude.{ℕ, List, ◌++◌, Result, codes}
use Rattle.std.specs.Fmt.{decimal}
use Rattle.std.specs.declared.io.ErrorKind.{ErrorKind}
use Rattle.std.specs.declared.io.ErrorKind.TheVariants.{NotFound, IsADirectory, OutOfMemory}
use Rattle.text_files.specs.declared.FileFault.{FileFault}
use Rattle.text_files.specs.declared.FileFault.TheVariants.{Missing, Folder, Unreadable, NotText, Memory}

-- the words of a fault (own profile)
abbrev pub fault_words : FileFault → List ℕ
fault_words Missing = codes "there is no such file"
fault_words Folder = codes "it is a folder"
fault_words Unreadable = codes "it can't be read"
fault_words (NotText byte) = codes "it isn't UTF-8: the first byte that is none is byte " ++ (decimal byte ++ codes ", counted from 0")
fault_words Memory = codes "out of memory"

-- what the system says of a file that it doesn't read (own profile)
abbrev pub fault_of : ErrorKind → FileFault
fault_of NotFound = Missing
fault_of IsADirectory = Folder
fault_of OutOfMemory = Memory
fault_of _ = Unreadable

-- what reading the file with a path may come to: its text, or why it isn't read as one (own profile)
abbrev pub MayRead : Type 1
MayRead = List ℕ → Result (List ℕ) FileFault → Type 0
