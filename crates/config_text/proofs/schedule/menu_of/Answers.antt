use Rattle.std.proofs.lemmas.List.{map-id}
use Rattle.config_text.proofs.schedule.menu_of.Goals as goal

pub returns-then-menus : goal.returns-then-menus
returns-then-menus c = rw c.if-menus.true (simp map-id at c.menu_at.ensures)
