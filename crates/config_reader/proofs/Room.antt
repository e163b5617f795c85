-- A configuration without faults has few clients, and its profiles keep some entries, within the limit.
use Rattle.std.proofs.Common.{◌≡◌, ◌≤◌, nat_le, Bool, true, ◌&&◌, List, [], ◌∷◌, length, refl, subst, inl, inr}
use Rattle.std.specs.List.{list_all}
use Rattle.std.proofs.lemmas.Bool.{and_from, and_parts}
use Rattle.std.proofs.lemmas.List.{length-map}
use Rattle.cosem_data.specs.declared.cell.CellRef.{CellRef}
use Rattle.meter_theory.specs.Lists.{IsIn}
use Rattle.meter_theory.specs.Menus.{Choice, alternatives}
use Rattle.meter_theory.proofs.Lists.{in_map}
use Rattle.meter_theory.specs.Sound.{is_name, has_capture_sizes, has_part_sizes}
use Rattle.meter_theory.specs.declared.limits.TheConstants as limits
use Rattle.config_text.specs.Parts.{ConfigText, BodyText, DataText, RegisterText, ProfileText, ClockText, ScriptTableText, MonitorText, ScheduleText, UnknownText}
use Rattle.config_rules.specs.Faultless.{IsFaultless}
use Rattle.config_rules.specs.PlanOf.{object_of, part_of, captures_of, name_of, client_of}
use Rattle.config_rules.proofs.Sound.{plan_is_sound}
use Rattle.config_reader.specs.Room.{has_room}

all_from : {A : Type 0} (test : A → Bool) (xs : List A) → ((x : A) → IsIn xs x → test x ≡ true) → list_all test xs ≡ true
all_from test [] h = refl
all_from test (x ∷ xs) h = and_from (test x) (list_all test xs) (h x (inl refl)) (all_from test xs (λ y i. h y (inr i)))

room_in : (c : ConfigText) (body : BodyText) → has_part_sizes (part_of c body) ≡ true → has_room body ≡ true
room_in c (DataText value) h = refl
room_in c (RegisterText value default scaler unit) h = refl
room_in c (ProfileText captures period entries sort_method) h =
    let choice : Choice (List CellRef) = captures_of c captures in
    let rest = (and_parts (nat_le (length choice.menu) limits.MENU) _ h).1 in
    (and_parts (list_all has_capture_sizes (alternatives choice)) (nat_le 1 entries && nat_le entries limits.PROFILE_ENTRIES) rest).1
room_in c (ClockText time) h = refl
room_in c (ScriptTableText scripts) h = refl
room_in c (MonitorText monitored thresholds actions) h = refl
room_in c (ScheduleText script type times) h = refl
room_in c UnknownText h = refl

pub profiles_have_room : (c : ConfigText) → IsFaultless c → list_all (λ o. has_room o.body) c.objects ≡ true
profiles_have_room c f = all_from (λ o. has_room o.body) c.objects (λ o i.
    room_in c o.body (and_parts (is_name (name_of o.name)) (has_part_sizes (part_of c o.body)) ((plan_is_sound c f.read f.judged).sizes (object_of c o) (in_map (object_of c) c.objects o i))).1)

pub few_clients : (c : ConfigText) → IsFaultless c → length c.clients ≤ limits.CLIENTS
few_clients c f = subst (λ n. n ≤ limits.CLIENTS) (length-map c.clients client_of) (plan_is_sound c f.read f.judged).few_clients
