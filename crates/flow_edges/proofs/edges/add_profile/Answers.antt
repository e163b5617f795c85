use Rattle.std.proofs.Common.{◌∙◌, ap, sym, subst, refl, inl}
use Rattle.std.proofs.lemmas.Result.{on_ok_weaker}
use Rattle.class_profile.specs.PartView.{captures_of_part}
use Rattle.meter_theory.specs.Lists.{IsIn}
use Rattle.meter_theory.specs.Plan.{buffer, capture_period, cells, entries_in_use}
use Rattle.meter_theory.specs.Value.{counter}
use Rattle.meter_theory.proofs.Menus.{in_count, in_period}
use Rattle.meter_theory.specs.Sound.{IsSound}
use Rattle.flow_edges.specs.Table.{cell_at}
use Rattle.flow_edges.proofs.Objects.{profile-added}
use Rattle.flow_edges.proofs.Sources.{captured-cell, own-cell, own-start}
use Rattle.flow_edges.proofs.edges.add_profile.Goals as goal

pub number_of-rows-requires-clause-of_plan : goal.number_of-rows-requires-clause-of_plan
number_of-rows-requires-clause-of_plan c = subst (IsIn (cells c.args.instance.now.plan)) (sym (c.buffer.ensures ∙ ap buffer c.name-name.ensures)) (own-cell c.args.instance.now.plan c.args.instance.now.name _ (buffer c.args.instance.now.name) c.requires.part (inl refl))

pub number_of-period-requires-clause-of_plan : goal.number_of-period-requires-clause-of_plan
number_of-period-requires-clause-of_plan c =
    let part = c.args.part.now in
    subst (IsIn (cells c.args.instance.now.plan)) (sym (c.capture_period.ensures ∙ ap capture_period c.name-name.ensures))
    (own-start c.args.instance.now.plan c.args.instance.now.name _ (capture_period c.args.instance.now.name) (counter part.capture_period) c.requires.part
    (in_period c.args.instance.now.name (captures_of_part part) part.capture_period part.profile_entries))

pub number_of-in_use-requires-clause-of_plan : goal.number_of-in_use-requires-clause-of_plan
number_of-in_use-requires-clause-of_plan c =
    let part = c.args.part.now in
    subst (IsIn (cells c.args.instance.now.plan)) (sym (c.entries_in_use.ensures ∙ ap entries_in_use c.name-name.ensures))
    (own-start c.args.instance.now.plan c.args.instance.now.name _ (entries_in_use c.args.instance.now.name) (counter 0) c.requires.part
    (in_count c.args.instance.now.name (captures_of_part part) part.capture_period part.profile_entries))

pub add_alternatives-requires-clause-captured : goal.add_alternatives-requires-clause-captured
add_alternatives-requires-clause-captured c =
    let part = c.args.part.now in
    captured-cell c.args.instance.now.plan c.args.instance.now.name (captures_of_part part) part.capture_period part.profile_entries (subst IsSound c.plan.ensures c.known.ensures.sound) c.requires.part

pub returns : goal.returns
returns c =
    let part = c.args.part.now in
    let a = c.args.table.now in
    on_ok_weaker c.add_clock_to_both.result
    (profile-added c.args.instance.now.plan c.args.instance.now.name (captures_of_part part) part.capture_period part.profile_entries
    a c.add_alternatives.new.table c.add_menu_to_both.new.table c.add.new.self c.add-2.new.self c.add_clock_to_both.new.table
    c.number_of-rows.result c.number_of-period.result c.number_of-in_use.result
    (ap (λ cs. cell_at cs c.number_of-rows.result) c.requires.cells ∙ c.number_of-rows.ensures.there ∙ (c.buffer.ensures ∙ ap buffer c.name-name.ensures))
    (ap (λ cs. cell_at cs c.number_of-period.result) c.requires.cells ∙ c.number_of-period.ensures.there ∙ (c.capture_period.ensures ∙ ap capture_period c.name-name.ensures))
    (ap (λ cs. cell_at cs c.number_of-in_use.result) c.requires.cells ∙ c.number_of-in_use.ensures.there ∙ (c.entries_in_use.ensures ∙ ap entries_in_use c.name-name.ensures))
    c.in_ok-add_alternatives.ensures c.in_ok-add_menu_to_both.ensures
    c.in_ok-add.ensures.ok c.in_ok-add-2.ensures.ok)
    c.add_clock_to_both.ensures
