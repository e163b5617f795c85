-- What a line says beside the steps of the meter itself that it brings. All of it is own profile.
use Rattle.line_server.specs.declared.driving.Left.{Left}
use Rattle.line_server.specs.declared.driving.Left.TheVariants as left
use Rattle.line_server.specs.declared.line.Line.{Line}
use Rattle.line_server.specs.declared.line.Line.TheVariants as lines

abbrev pub left_of : Line → Left
left_of (lines.Ask ask) = left.Ask ask
left_of (lines.Unreadable why) = left.Unreadable why
left_of _ = left.Nothing
