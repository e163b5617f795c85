use Rattle.std.proofs.Common.{◌≡◌, ℕ, ◌+◌, ◌≤◌, List, length, take, slice_range, sym, ap, subst, ◌∙◌, arith}
use Rattle.std.specs.Io.KnownBytes.{Consumes}
use Rattle.live_server.specs.Ahead.{unread}
use Rattle.live_server.proofs.Ahead.{ends-ahead, gives-ahead, none-ahead}
use Rattle.live_server.proofs.by_line.ByLineRead.read.Goals as goal

pub returns-clause-bytes : goal.returns-clause-bytes
returns-clause-bytes g c =
    let old = c.args.self.now in
    let now = c.read_ahead.new.self in
    let left = g.I.Read.remaining now.lines in
    let count = c.copy_line-count in
    let same = c.deref.ensures.value in
    let within = subst (λ (l : List ℕ). count.result ≤ length (slice_range l now.from now.to)) same count.ensures.within in
    let copied = count.ensures.copied ∙ ap (λ (l : List ℕ). take count.result (slice_range l now.from now.to)) same in (
      subst (Consumes (unread old.ahead.items old.from old.to (g.I.Read.remaining old.lines)) (unread now.ahead.items (now.from + count.result) now.to left)) (sym copied)
          (gives-ahead now.ahead.items now.from now.to count.result (unread old.ahead.items old.from old.to (g.I.Read.remaining old.lines)) left within c.in_ok-read_ahead.ensures.bytes),
      λ none room.
          let nothing = subst (λ (l : List ℕ). length (slice_range l now.from now.to) ≡ 0) same (count.ensures.none none (omega (arith, room, count.ensures.same))) in
          let empty = none-ahead now.ahead.items now.from now.to (omega (arith, now.read, now.ahead.ok.0)) nothing in
          ends-ahead now.ahead.items now.from now.to count.result left empty (c.in_ok-read_ahead.ensures.end empty),
    )
