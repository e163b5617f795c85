-- What a pass that found nothing says of each part.
use Rattle.std.proofs.Common.{◌≡◌, ℕ, List, [], ◌∷◌, ◌++◌, refl, sym, subst, inl, inr, Result, Ok, Err}
use Rattle.std.specs.Prelude.{ℤ, Option, codes, nat_lt}
use Rattle.meter_theory.specs.Lists.{IsIn}
use Rattle.meter_theory.specs.declared.limits.TheConstants as limits
use Rattle.config_text.specs.declared.cause.Cause.TheVariants.{Limit}
use Rattle.config_text.specs.declared.cause.Limit.TheVariants as of
use Rattle.config_text.specs.Fault.{Fault, fault_where, first_of, ◌>>=◌}
use Rattle.config_text.specs.Parts.{Text, MenuText, ConfigText, TargetText, ScriptRefText, CaptureText, ActionText, ScriptText, UpDownText, BodyText, DataText, RegisterText, ProfileText, ClockText, ScriptTableText, MonitorText, ScheduleText, UnknownText}
use Rattle.config_rules.specs.Walks.{Judge, each, each_action, each_capture, each_run, script_actions, both_scripts, references}
use Rattle.config_rules.specs.Names.{menu_in}
use Rattle.config_rules.specs.Passes as passes
use Rattle.config_rules.specs.Passes.{found, judged}
use Rattle.config_rules.proofs.Nothing.{both_none, none_found, each_ok}

-- a chain that found nothing: neither did its first line, nor the others
pub then_ok : {A B E : Type 0} (r : Result A E) (f : A → Result B E) (y : B) → r >>= f ≡ Ok y → (x : A) × (r ≡ Ok x) × (f x ≡ Ok y)
then_ok (Ok x) f y h = (x, refl, h)
then_ok (Err e) f y h = cc

-- where the first of them says nothing, there are no faults
none_first : (faults : List Fault) → first_of faults ≡ Ok tt → faults ≡ []
none_first [] h = refl
none_first (fault ∷ faults) h = cc

-- each action of each script was judged, and found right
pub each_action_ok : (judge : Judge ActionText) (at : Text) (scripts : List ScriptText) → each_action judge at scripts ≡ [] →
    (s : ScriptText) → IsIn scripts s → (a : ActionText) → IsIn s.actions a → (place : Text) × (judge place a ≡ [])
each_action_ok judge at scripts h s i a j =
    let r = each_ok (script_actions judge) (at ++ codes ".script") 0 scripts h s i in
    each_ok judge (r.0 ++ codes ".action") 0 s.actions r.1 a j

-- what an attribute may hold: what it holds at the start, and the alternatives of its menu
abbrev pub alternatives_in : {A : Type 0} → MenuText A → List A
alternatives_in m = m.start ∷ menu_in m

-- each captured attribute was judged, at the start and by each alternative, and found right
pub each_capture_ok : (judge : Judge CaptureText) (at : Text) (captures : MenuText (List CaptureText)) → each_capture judge at captures ≡ [] →
    (xs : List CaptureText) → IsIn (alternatives_in captures) xs → (x : CaptureText) → IsIn xs x → (place : Text) × (judge place x ≡ [])
each_capture_ok judge at captures h xs i x j =
    let both = both_none (each judge (at ++ codes ".capture") captures.start) (each (each judge) (at ++ codes ".capture_menu") (menu_in captures)) h in
    elim i [
      | inl e ↦ each_ok judge (at ++ codes ".capture") 0 captures.start both.0 x (subst (λ ys. IsIn ys x) e j)
      | inr k ↦ let r = each_ok (each judge) (at ++ codes ".capture_menu") 0 (menu_in captures) both.1 xs k in each_ok judge r.0 0 xs r.1 x j
    ]

-- and each script of a schedule
pub each_run_ok : (judge : Judge ScriptRefText) (at : Text) (script : MenuText ScriptRefText) → each_run judge at script ≡ [] →
    (r : ScriptRefText) → IsIn (alternatives_in script) r → (place : Text) × (judge place r ≡ [])
each_run_ok judge at script h r i =
    let both = both_none (judge (at ++ codes ".script") script.start) (each judge (at ++ codes ".script_menu") (menu_in script)) h in
    elim i [
      | inl e ↦ (at ++ codes ".script", subst (λ z. judge (at ++ codes ".script") z ≡ []) (sym e) both.0)
      | inr k ↦ each_ok judge (at ++ codes ".script_menu") 0 (menu_in script) both.1 r k
    ]

-- each thing that a body refers to
abbrev pub EachReference : (TargetText → Type 0) → (ScriptRefText → Type 0) → BodyText → Type 0
EachReference T S (DataText value) = Unit {0}
EachReference T S (RegisterText value default scaler unit) = Unit {0}
EachReference T S (ProfileText captures period entries sort_method) =
    (xs : List CaptureText) → IsIn (alternatives_in captures) xs → (x : CaptureText) → IsIn xs x → T x.target
EachReference T S (ClockText time) = Unit {0}
EachReference T S (ScriptTableText scripts) = (s : ScriptText) → IsIn scripts s → (a : ActionText) → IsIn s.actions a → T a.target
EachReference T S (MonitorText monitored thresholds actions) = T monitored × ((a : UpDownText) → IsIn actions a → S a.up × S a.down)
EachReference T S (ScheduleText script type times) = (r : ScriptRefText) → IsIn (alternatives_in script) r → S r
EachReference T S UnknownText = Unit {0}

pub references_ok : (T : TargetText → Type 0) (S : ScriptRefText → Type 0) (target : Judge TargetText) (script : Judge ScriptRefText) →
    ((at : Text) (t : TargetText) → target at t ≡ [] → T t) → ((at : Text) (r : ScriptRefText) → script at r ≡ [] → S r) →
    (at : Text) (body : BodyText) → references target script at body ≡ [] → EachReference T S body
unfolding references
references_ok T S target script t r at (DataText value) h = tt
references_ok T S target script t r at (RegisterText value default scaler unit) h = tt
references_ok T S target script t r at (ProfileText captures period entries sort_method) h = λ xs i x j.
    let judged = each_capture_ok (λ place y. target place y.target) at captures h xs i x j in t judged.0 x.target judged.1
references_ok T S target script t r at (ClockText time) h = tt
references_ok T S target script t r at (ScriptTableText scripts) h = λ s i a j.
    let judged = each_action_ok (λ place x. target place x.target) at scripts h s i a j in t judged.0 a.target judged.1
references_ok T S target script t r at (MonitorText monitored thresholds actions) h =
    let first = both_none (target (at ++ codes ".monitored") monitored) (each (both_scripts script) (at ++ codes ".action") actions) h in (
      t (at ++ codes ".monitored") monitored first.0,
      λ a i.
          let judged = each_ok (both_scripts script) (at ++ codes ".action") 0 actions first.1 a i in
          let both = both_none (script (judged.0 ++ codes ".up") a.up) (script (judged.0 ++ codes ".down") a.down) judged.1 in
          (r (judged.0 ++ codes ".up") a.up both.0, r (judged.0 ++ codes ".down") a.down both.1),
    )
references_ok T S target script t r at (ScheduleText s type times) h = λ z i.
    let judged = each_run_ok script at s h z i in r judged.0 z judged.1
references_ok T S target script t r at UnknownText h = tt

-- The parts of the passes over several arrays

pub forms_parts : (c : ConfigText) → passes.forms c ≡ [] →
    (each (λ at client. passes.client_form c.version (at ++ codes ".name") client.name) (codes "client") c.clients ≡ [])
    × (each passes.object_forms (codes "object") c.objects ≡ []) × (each (passes.right_forms c.version) (codes "right") c.rights ≡ [])
unfolding passes.forms
forms_parts c h =
    let clients = each (λ at client. passes.client_form c.version (at ++ codes ".name") client.name) (codes "client") c.clients in
    let objects = each passes.object_forms (codes "object") c.objects in
    let rights = each (passes.right_forms c.version) (codes "right") c.rights in
    let policy = passes.both_sets (passes.client_form c.version) (codes "policy") c.policy in
    let labels = each (passes.label_forms c.version) (codes "label") c.labels in
    let names = both_none (clients ++ objects ++ rights) policy (both_none (clients ++ objects ++ rights ++ policy) labels h).0 in
    let tables = both_none (clients ++ objects) rights names.0 in
    let first = both_none clients objects tables.0 in
    (first.0, first.1, tables.1)

pub clients_part : (c : ConfigText) → passes.known_clients c ≡ [] → each (λ at r. passes.known_client (passes.are_found (passes.new_clients c)) c (at ++ codes ".client") r.client) (codes "right") c.rights ≡ []
unfolding passes.known_clients_by
clients_part c h =
    let known = passes.known_client (passes.are_found (passes.new_clients c)) c in
    let rights = each (λ at r. known (at ++ codes ".client") r.client) (codes "right") c.rights in
    let policy = passes.both_sets known (codes "policy") c.policy in
    let labels = each (λ at l. passes.both_sets known at l.sets) (codes "label") c.labels in
    (both_none rights policy (both_none (rights ++ policy) labels h).0).0

pub references_parts : (c : ConfigText) → passes.known_references c ≡ [] →
    (each (λ at o. references (λ place t. passes.known_object c place t.object) (passes.known_script (passes.are_found (passes.new_scripts c)) c) at o.body) (codes "object") c.objects ≡ [])
    × (each (λ at r. passes.known_object c at r.object) (codes "right") c.rights ≡ [])
unfolding passes.known_references_by
references_parts c h =
    let objects = each (λ at o. references (λ place t. passes.known_object c place t.object) (passes.known_script (passes.are_found (passes.new_scripts c)) c) at o.body) (codes "object") c.objects in
    let rights = each (λ at r. passes.known_object c at r.object) (codes "right") c.rights in
    let labels = each (λ at l. passes.known_object c at l.target.object) (codes "label") c.labels in
    both_none objects rights (both_none (objects ++ rights) labels h).0

pub indexes_parts : (c : ConfigText) → passes.known_indexes c ≡ [] →
    (each (λ at o. passes.usable_indexes c at o.body) (codes "object") c.objects ≡ []) × (each (passes.right_indexes c) (codes "right") c.rights ≡ [])
unfolding passes.known_indexes
indexes_parts c h = both_none (each (λ at o. passes.usable_indexes c at o.body) (codes "object") c.objects) (each (passes.right_indexes c) (codes "right") c.rights) h

pub limits_parts : (c : ConfigText) → passes.within_limits c ≡ [] →
    (passes.at_most of.Clients limits.CLIENTS (codes "client") c.clients ≡ []) × (passes.at_most of.Objects limits.OBJECTS (codes "object") c.objects ≡ [])
    × (each (λ at o. passes.limits_in at o.body) (codes "object") c.objects ≡ [])
unfolding passes.within_limits
limits_parts c h =
    let clients = passes.at_most of.Clients limits.CLIENTS (codes "client") c.clients in
    let few = passes.at_most of.Objects limits.OBJECTS (codes "object") c.objects in
    let both = both_none (clients ++ few) (each (λ at o. passes.limits_in at o.body) (codes "object") c.objects) h in
    let arrays = both_none clients few both.0 in
    (arrays.0, arrays.1, both.1)

-- The parts of the sizes of a profile

pub profile_limits : (at : Text) (captures : MenuText (List CaptureText)) (period entries : ℕ) (sort_method : Option ℤ) →
    passes.limits_in at (ProfileText captures period entries sort_method) ≡ [] →
    (passes.at_most of.Captures limits.CAPTURE_OBJECTS (at ++ codes ".capture") captures.start ≡ [])
    × (fault_where (Limit of.Entries) (at ++ codes ".entries") (nat_lt limits.PROFILE_ENTRIES entries) ≡ [])
    × (passes.menu_size (at ++ codes ".capture_menu") captures.menu ≡ [])
    × (each (passes.at_most of.Captures limits.CAPTURE_OBJECTS) (at ++ codes ".capture_menu") (menu_in captures) ≡ [])
unfolding passes.limits_in
profile_limits at captures period entries sort_method h =
    let few = passes.at_most of.Captures limits.CAPTURE_OBJECTS (at ++ codes ".capture") captures.start in
    let size = fault_where (Limit of.Entries) (at ++ codes ".entries") (nat_lt limits.PROFILE_ENTRIES entries) in
    let menu = passes.menu_size (at ++ codes ".capture_menu") captures.menu in
    let all = both_none (few ++ size ++ menu) (each (passes.at_most of.Captures limits.CAPTURE_OBJECTS) (at ++ codes ".capture_menu") (menu_in captures)) h in
    let more = both_none (few ++ size) menu all.0 in
    let first = both_none few size more.0 in
    (first.0, first.1, more.1, all.1)

-- What every pass found.
pub record IsJudged (c : ConfigText) : Type 0 where
  pub forms : passes.forms c ≡ []
  pub objects : passes.new_objects c ≡ []
  pub classes : passes.known_classes c ≡ []
  pub clients : passes.known_clients c ≡ []
  pub access : passes.new_clients c ≡ []
  pub references : passes.known_references c ≡ []
  pub indexes : passes.known_indexes c ≡ []
  pub values : passes.valid_values c ≡ []
  pub rights : passes.settable_rights c ≡ []
  pub counts : passes.equal_counts c ≡ []
  pub scripts : passes.new_scripts c ≡ []
  pub executes : passes.no_executes c ≡ []
  pub limits : passes.within_limits c ≡ []
  pub labels : passes.new_labels c ≡ []
  pub inputs : passes.fed_values c ≡ []
  pub times : passes.valid_times c ≡ []
  pub sorting : passes.valid_sorting c ≡ []
  pub clocks : passes.new_clocks c ≡ []
  pub alternatives : passes.new_alternatives c ≡ []

all_passed : (c : ConfigText) → found c ≡ [] → IsJudged c
unfolding found
all_passed c h =
    let a = none_found _ _ h in
    let b = none_found _ _ a.1 in
    let d = none_found _ _ b.1 in
    let e = none_found _ _ d.1 in
    let f = none_found _ _ e.1 in
    let g = none_found _ _ f.1 in
    let i = none_found _ _ g.1 in
    let j = none_found _ _ i.1 in
    let k = none_found _ _ j.1 in
    let l = none_found _ _ k.1 in
    let m = none_found _ _ l.1 in
    let n = none_found _ _ m.1 in
    let o = none_found _ _ n.1 in
    let p = none_found _ _ o.1 in
    let q = none_found _ _ p.1 in
    let r = none_found _ _ q.1 in
    let s = none_found _ _ r.1 in
    let t = none_found _ _ s.1 in
    let u = none_found _ _ t.1 in
    record {
      forms = a.0;
      objects = b.0;
      classes = d.0;
      clients = e.0;
      access = f.0;
      references = g.0;
      indexes = i.0;
      values = j.0;
      rights = k.0;
      counts = l.0;
      scripts = m.0;
      executes = n.0;
      limits = o.0;
      labels = p.0;
      inputs = q.0;
      times = r.0;
      sorting = s.0;
      clocks = t.0;
      alternatives = u.0;
    }

pub passed : (c : ConfigText) → judged c ≡ Ok tt → IsJudged c
unfolding judged
passed c h = all_passed c (none_first (found c) h)
