use Rattle.std.proofs.Common.{◌≡◌, ◌+◌, ◌-◌, map, ◌∷◌, ap, ◌∙◌, arith}
use Rattle.fleet_audit.specs.Turns.{turns}
use Rattle.fleet_audit.proofs.Dealt.{rest-none, turns-none, turns-empty, turns-more, turns-end}
use Rattle.fleet_audit.proofs.turns.in_turn.Goals as goal
use Rattle.fleet_audit.proofs.turns.in_turn.Goals.{else-loop-test, then-loop-test+in_default-pop_front, then-loop-test+in-Some+in_default-pop_front-2}

pub loop-preserved : goal.loop-preserved
loop-preserved c =
    let left = c.args.count - c.loop.counter in
    let next = c.args.count - (c.loop.counter + 1) in
    turns-more (λ list. list.items) left next c.loop.verdicts.items c.push.new.self.items c.loop.lists.items c.pop_front.new.self.items c.push_back.new.self.items c.in-Some.list c.pop_front-in-loop.new.self c.in-Some-pop_front.verdict (omega arith) c.in-Ok-push.ensures.items c.in-Some.ensures.items c.in-Some-pop_front.ensures.items c.in-Ok-push_back.ensures.items
    ∙ c.loop.invariant

pub returns-clause-verdicts : goal.returns-clause-verdicts
returns-clause-verdicts c =
    let left = c.args.count - c.loop.counter in
    let all = turns c.args.count (map (λ list. list.items) c.args.lists.items) in
    let ended = turns-end (λ list. list.items) left c.loop.verdicts.items all c.loop.lists.items in
    elim c.loop-test.branch [
      | else-loop-test w ↦
          let none : left ≡ 0 = omega arith in
          ended (ap (λ n. turns n (map (λ list. list.items) c.loop.lists.items)) none) c.loop.invariant
      | then-loop-test+in_default-pop_front w ↦
          let none = rest-none c.loop.lists.items w.pop_front.new.self.items w.in_default-pop_front.ensures.items w.in_default-pop_front.ensures.rest in
          ended (ap (λ lists. turns left (map (λ list. list.items) lists)) none ∙ turns-none left) c.loop.invariant
      | then-loop-test+in-Some+in_default-pop_front-2 w ↦
          let none = rest-none w.in-Some.list.items w.pop_front-in-loop.new.self.items w.in_default-pop_front-2.ensures.items w.in_default-pop_front-2.ensures.rest in
          let others = map (λ list. list.items) w.pop_front.new.self.items in
          ended (ap (λ lists. turns left (map (λ list. list.items) lists)) w.in-Some.ensures.items ∙ ap (λ first. turns left (first ∷ others)) none ∙ turns-empty left others) c.loop.invariant
    ]
