use Rattle.std.proofs.Common.{◌≡◌, ◌∷◌, ◌+◌, true, sym, ap, ◌∙◌}
use Rattle.label_certificate.specs.LabelLine.{names_of}
use Rattle.label_certificate.specs.LineView.{parts_left}
use Rattle.label_certificate.specs.Members.{places_of}
use Rattle.label_certificate.proofs.Gathered.{gathered, gathered-more}
use Rattle.meter_theory.proofs.ClientSets.{new_is_nobody, with_is}
use Rattle.label_certificate.proofs.reading.set_of_names.Goals as goal

pub loop-left-init : goal.loop-left-init
loop-left-init c =
    let P = c.args.plan.now in
    ap (λ ns. gathered c.new-set.result true 0 (places_of P ns)) c.names_left-left.ensures
    ∙ ap (λ s. gathered s true 0 (places_of P (names_of c.args.text.now))) (new_is_nobody c.new-set.result c.new-set.ensures)

pub loop-left-preserved : goal.loop-left-preserved
loop-left-preserved c =
    let P = c.args.plan.now in
    let set = c.loop-left.set in
    let rising = c.loop-left.rising in
    let least = c.loop-left.least in
    let place = c.in_ok-place.place in
    let name = c.first_name.result.0.now in
    let names = parts_left 44 c.first_name.result.1 in
    let here : name ∷ names ≡ parts_left 44 c.loop-left.left = sym c.first_name.ensures.split ∙ ap (parts_left 44) (sym c.in-Some.is) in
    ap (λ b. gathered c.with-set.result b (place + 1) (places_of P names)) c.rises_to-rising.ensures
    ∙ sym (gathered-more P set c.with-set.result rising least place name names (sym c.client_named.ensures.named ∙ c.in_ok-place.was) (with_is set c.with-set.result place c.in_ok-place.ensures.few c.with-set.ensures))
    ∙ ap (λ ns. gathered set rising least (places_of P ns)) here
    ∙ c.loop-left.invariant
