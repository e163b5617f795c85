use Rattle.std.proofs.Common.{List, ℕ, ◌++◌, ap, append_assoc}
use Rattle.std.specs.Prelude.{codes}
use Rattle.tcp_wrapper.specs.Places.{place_words}
use Rattle.peer_watch.proofs.words.end_words.Goals as goal

pub returns-in-Frame : goal.returns-in-Frame
returns-in-Frame c = rw c.in-Frame.is (ap (λ (t : List ℕ). codes "closed, " ++ t) (append_assoc (place_words c.in-Frame.place) (codes ": ") c.in-Frame.fault.now))
