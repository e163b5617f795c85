-- The steps of a trail as JSON (RFC 8259): one object and a newline, without spaces, its members in the order of their keys' bytes. What
-- stands in it is own profile.
use Rattle.std.specs.Prelude.{ℕ, List, ◌++◌, codes, map, Option, None, Some, is_some}
use Rattle.serde_json.specs.Data.{Data, array, member, no_members, null, object, string}
use Rattle.serde_json.specs.View.{items_of}
use Rattle.serde_json.specs.Written.{compact_text}
use Rattle.shown_text.specs.Printable.{printable}
use Rattle.trail_file.specs.Versions.{version_text}
use Rattle.trail_file.specs.declared.head.Head.{Head}
use Rattle.trail_words.specs.Lines.{digest_text, line_words}
use Rattle.trail_words.specs.Notes.{client_of, moment_in, result_in, taker_in}
use Rattle.trail_words.specs.declared.steps.TrailStep.{TrailStep}

-- a text as a terminal prints it, or null where there is none
abbrev pub shown_data : Option (List ℕ) → Data
shown_data None = null
shown_data (Some text) = string (printable text)

-- a step: who took it, which client, the line as it stands in the file, when, its result, and the line in words
abbrev pub step_data : TrailStep → Data
step_data s = object (
    member (codes "by") (shown_data (taker_in s.note.now (is_some s.seconds)))
    (member (codes "client") (shown_data (client_of s.line.now))
    (member (codes "line") (string (printable s.line.now))
    (member (codes "moment") (shown_data (moment_in s.note.now (is_some s.seconds)))
    (member (codes "result") (shown_data (result_in s.note.now (is_some s.seconds)))
    (member (codes "step") (string (line_words s.line.now))
    no_members))))))

-- the program and its version, the digest of the configuration, and the steps
abbrev pub trail_data : Head → List TrailStep → Data
trail_data head steps = object (
    member (codes "configuration") (string (digest_text head))
    (member (codes "program") (string (codes "cosem-flow"))
    (member (codes "steps") (array (items_of (map step_data steps)))
    (member (codes "version") (string (version_text head.version))
    no_members))))

-- its text, with a newline behind it
abbrev pub trail_json : Head → List TrailStep → List ℕ
trail_json head steps = compact_text (trail_data head steps) ++ codes "\n"
