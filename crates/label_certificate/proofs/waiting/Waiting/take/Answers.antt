use Rattle.std.proofs.Common.{◌≡◌, ◌<◌, vec_len, length, subst, sym, rules}
use Rattle.label_certificate.specs.Waiting.{AreMarked}
use Rattle.label_certificate.proofs.Marked.{first-below, marked-less, taken}
use Rattle.label_certificate.proofs.waiting.Waiting.take.Goals as goal

pub index_mut-requires : goal.index_mut-requires
index_mut-requires c =
    let long : vec_len c.self.inside.marks ≡ length c.self.inside.marks.items = search rules in
    subst (λ n. c.in_ok-number.number < n) (sym long)
    (first-below c.pop_front.new.self.items c.self.inside.marks.items c.in_ok-number.number
    (subst (λ numbers. AreMarked numbers c.self.inside.marks.items) c.in_ok-number.ensures.items c.self.invariant))

pub invariant_of-self-2 : goal.invariant_of-self-2
invariant_of-self-2 c =
    marked-less c.pop_front.new.self.items c.self.inside.marks.items c.in_ok-number.number
    (subst (λ numbers. AreMarked numbers c.self.inside.marks.items) c.in_ok-number.ensures.items c.self.invariant)

pub returns : goal.returns
returns c =
    taken c.args.self.now c.self.inside.numbers.items c.pop_front.new.self.items c.self.inside.marks.items c.in_ok-number.number c.self.view_is c.in_ok-number.ensures.items c.self.invariant
