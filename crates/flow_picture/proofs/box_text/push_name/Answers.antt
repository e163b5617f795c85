use Rattle.std.proofs.Common.{◌∙◌, ◌≤◌, ◌++◌, ◌∷◌, [], map, length, sym, ap, append-nil, arith}
use Rattle.std.proofs.lemmas.List.{map-append}
use Rattle.flow_picture.proofs.Words.{name-past, name-there}
use Rattle.flow_picture.proofs.box_text.push_name.Goals as goal

pub returns-in_default : goal.returns-in_default
returns-in_default c =
    let names = map (λ name. name.now) c.args.names.now.items in
    let past : length c.args.clients.now ≤ c.args.client = omega (arith, c.from.ensures, c.in_default.ensures.lookup.3) in
    sym (append-nil names) ∙ ap (λ more. names ++ more) (name-past c.args.clients.now c.args.set c.args.client past)

pub returns : goal.returns
returns c =
    let names = map (λ name. name.now) c.args.names.now.items in
    let name = c.in-Some.name.now in
    let found = rw c.from.ensures at c.in-Some.ensures.lookup in
    let has = sym c.if-not-has.false ∙ c.has.ensures in
    ap (map (λ name. name.now)) c.in_ok-push.ensures.items
    ∙ map-append (λ name. name.now) c.args.names.now.items (c.as_str.result ∷ [])
    ∙ ap (λ more. names ++ more) (ap (λ text. text ∷ []) c.as_str.ensures.value ∙ name-there c.args.clients.now c.args.set c.args.client name has found.3.0 found.1)
