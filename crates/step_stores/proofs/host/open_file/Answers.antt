use Rattle.std.proofs.Common.{◌≡◌, ◌∙◌, Bool, List, ap, arith, map, subst, sym, ℕ}
use Rattle.std.specs.Prelude.{IsTrue}
use Rattle.trail_file.specs.Opening.{EndsBefore}
use Rattle.trail_file.specs.Text.{entry_of}
use Rattle.trail_file.specs.declared.head.Head.{Head}
use Rattle.trail_file.specs.declared.looking.Found.{Found}
use Rattle.trail_host.specs.Host.{is_clean, seen}
use Rattle.trail_store.specs.Past.{all_left}
use Rattle.trail_store.specs.Stored.{steps_in}
use Rattle.trail_store.specs.declared.store.TheConstants.{BATCH}
use Rattle.step_stores.specs.declared.host.TheConstants.{VERSION}
use Rattle.step_stores.specs.Files.{IsTrailOf}
use Rattle.step_stores.proofs.Held.{are-kept, held-says, seen-says}
use Rattle.step_stores.proofs.host.open_file.Goals as goal

pub returns-clause-kept : goal.returns-clause-kept
returns-clause-kept g c =
    let P = c.args.plan.now in
    let head : Head = record { version = VERSION; digest = c.digest.result } in
    let looked = c.in_ok-looked.looked in
    let entries = map entry_of looked.found.entries.items in
    let left = all_left c.in_ok-past.past.seconds c.in_ok-past.past.said.items in
    let said : left ≡ steps_in P entries = c.in_ok-past.ensures.steps ∙ ap (λ es. steps_in P (map entry_of es)) (c.entries.ensures ∙ ap (λ (f : Found). f.entries.items) c.found-found.ensures) in
    let trail = c.in_ok-trail.trail in
    let file = seen g.S.Start trail.disk in
    are-kept P (is_clean g.S.Start trail.disk) file left _ (c.new.ensures.kept P) (λ clean.
    let was = subst (λ (b : Bool). IsTrue b) (c.in_ok-trail.ensures.calm) clean in
    let is = c.in_ok-looked.ensures.entries was in
    seen-says P head looked.found.head g.S.Start.db entries is file (c.in_ok-trail.ensures.entries clean ∙ sym is) ∙ sym said)

pub returns-clause-held : goal.returns-clause-held
returns-clause-held g c clean =
    let P = c.args.plan.now in
    let head : Head = record { version = VERSION; digest = c.digest.result } in
    let looked = c.in_ok-looked.looked in
    let of = subst (λ (t : _). IsTrue (is_clean g.S.Start t.disk)) c.new.ensures.trail clean in
    let was = subst (λ (b : Bool). IsTrue b) (c.in_ok-trail.ensures.calm) of in
    c.in_ok-past.ensures.steps ∙ ap (λ es. steps_in P (map entry_of es)) (c.entries.ensures ∙ ap (λ (f : Found). f.entries.items) c.found-found.ensures)
    ∙ held-says P head looked.found.head g.S.Start.db (map entry_of looked.found.entries.items) (c.in_ok-looked.ensures.entries was)

pub returns-clause-short : goal.returns-clause-short
returns-clause-short g c clean =
    let of = subst (λ (t : _). IsTrue (is_clean g.S.Start t.disk)) c.new.ensures.trail clean in
    let was = subst (λ (b : Bool). IsTrue b) (c.in_ok-trail.ensures.calm) of in
    let same = ap (λ (f : Found). f.bytes.items) c.found-found.ensures ∙ c.in_ok-looked.ensures.bytes was in
    let ends = c.behind.ensures in
    subst (λ (file : List ℕ). EndsBefore file BATCH) same (record {
      front = ends.front;
      tail = ends.tail;
      is = ends.is;
      whole = ends.whole;
      few = omega (arith, ends.few, c.if-behind-gt-BATCH.false);
    })

pub returns-clause-config : goal.returns-clause-config
returns-clause-config g c clean =
    let looked = c.in_ok-looked.looked in
    let of = subst (λ (t : _). IsTrue (is_clean g.S.Start t.disk)) c.new.ensures.trail clean in
    subst (λ (t : _). IsTrailOf c.args.config.now (seen g.S.Start t.disk)) (sym c.new.ensures.trail) (record {
      head = looked.found.head;
      entries = map entry_of looked.found.entries.items;
      is = c.in_ok-trail.ensures.entries of;
      digest = c.in_ok-looked.ensures.digest.1 ∙ c.digest.ensures;
    })
