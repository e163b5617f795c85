-- What the tables of a text say was judged as it was read.
use Rattle.std.proofs.Common.{◌≡◌, ℕ, ◌+◌, Bool, true, false, not, List, [], ◌∷◌, ◌++◌, refl, sym, ap, subst, ◌∙◌, inl, inr, Option, Some, None, is_some, Result, Ok, Err, nat_le, ℤ, pos, negsuc}
use Rattle.std.proofs.lemmas.Bool.{and_parts, and_from}
use Rattle.std.specs.Prelude.{⊤, codes, int_le, option_and_then, unwrap_or, ◌&&◌, ◌||◌, if◌then◌else◌, ◌^◌, ◌-◌}
use Rattle.std.specs.List.{list_all}
use Rattle.toml.specs.Data.{Data, Items, Members, no_items, item, get_member, as_array, as_integer, as_str, as_table}
use Rattle.meter_theory.specs.Classes.{class_in, is_of_class}
use Rattle.meter_theory.specs.declared.classes.Class.{Class}
use Rattle.meter_theory.specs.declared.classes.Class.TheVariants as classes
use Rattle.meter_theory.specs.Lists.{IsIn}
use Rattle.meter_theory.specs.Sound.{is_password, is_password_or_none, is_scaler, is_unit, is_script_number}
use Rattle.meter_theory.proofs.ClassTable.{known_is_of_class, unknown_has_no_class}
use Rattle.config_text.specs.Fault.{Faults, by_first, taken_or, there_or, ◌<*>◌, ◌<*◌, ◌>>=◌}
use Rattle.config_text.specs.Keys.{there as at_key}
use Rattle.config_text.specs.Parts.{Text, CaptureText, ClientText, ObjectText, ScriptRefText, ScriptText, ConfigText, BodyText, DataText, ClockText, ScriptTableText, UnknownText}
use Rattle.config_text.proofs.Readings.{beside_ok}
use Rattle.config_text.specs.declared.takes.Number as wanted
use Rattle.config_text.specs.declared.takes.Number.TheVariants as numbers
use Rattle.config_text.specs.KeyTakes.{range_of}
use Rattle.config_text.specs.declared.takes.KeyTakes as kinds
use Rattle.config_text.specs.declared.takes.KeyTakes.TheVariants as takes
use Rattle.config_rules.proofs.Passed.{then_ok}
use Rattle.config_rules.specs.Read.{IsRead, has_sap, is_body_of, has_ranges}
use Rattle.config_text.specs.Lists.{array_at, array_of, each, element_place, in_front, texts_at}
use Rattle.config_text.specs.Tables.{list_at, optional_list_at, table_at, table_of}
use Rattle.config_text.specs.Values.{natural_at, natural_in, number_in, text_at, scaler_at, integer_in, has_ascii, ascii_in, optional, password_at, optional_integer_at}
use Rattle.config_text.specs.Classes.{data_of, register_of, register_text, capture_of, capture_menu_of, profile_of, profile_text, clock_of, action_of, script_of, script_text, script_table_of, up_down_of, monitor_of, monitor_text, schedule_of, schedule_text, script_menu_of}
use Rattle.config_text.specs.Targets.{target_table_of, script_ref_of}
use Rattle.config_text.specs.Rights.{right_of, policy_of, label_of}
use Rattle.config_text.specs.Clients.{client_of, client_text}
use Rattle.config_text.specs.Objects.{object_of, object_text, has_menus, body_of, class_told, fed_of}
use Rattle.config_text.specs.Document.{config_text, tables_of, told_version, parts_of, document_of}

-- what was said last
abbrev says_ok : {A : Type 0} → A → Result A Faults
says_ok x = Ok x

said : {A : Type 0} (x y : A) → says_ok x ≡ says_ok y → x ≡ y
said x y h = cc

-- what was found where something was
found : {A : Type 0} (kind : kinds.KeyTakes) (place : Text) (r : Option A) (x : A) → taken_or kind place r ≡ Ok x → r ≡ Some x
found kind place (Some y) x h = cc
found kind place None x h = cc

-- what stands at a key that has to be there
stands : (at key : Text) (t : Members) (d : Data) → at_key at key t ≡ Ok d → get_member key t ≡ Some d
stands at key t d h = one (get_member key t) h
  where
    one : (m : Option Data) → there_or (at ++ key) m ≡ Ok d → m ≡ Some d
    one (Some e) h = cc
    one None h = cc

-- what was read beside that no other keys stand there
alone : {A : Type 0} (r : Result A Faults) (others : Result ⊤ Faults) (x : A) → r <* others ≡ Ok x → r ≡ Ok x
alone (Ok y) (Ok u) x h = cc
alone (Ok y) (Err faults) x h = cc
alone (Err faults) (Ok u) x h = cc
alone (Err faults) (Err more) x h = cc

-- a number that was found is in its range
in_range : (low high : ℕ) (z : Option ℤ) (n : ℕ) → natural_in low high z ≡ Some n → (nat_le low n && nat_le n high) ≡ true
in_range low high (Some (pos m)) n h = at (nat_le low m && nat_le m high) refl h
  where
    at : (b : Bool) → (nat_le low m && nat_le m high) ≡ b → (if b then Some m else None) ≡ Some n → (nat_le low n && nat_le n high) ≡ true
    at true is e = subst (λ k. (nat_le low k && nat_le k high) ≡ true) (one m n e) is
      where
        one : (a b : ℕ) → Some a ≡ Some b → a ≡ b
        one a b e = cc
    at false is e = cc
in_range low high (Some (negsuc m)) n h = cc
in_range low high None n h = cc

natural_in_range : (number : wanted.Number) (at key : Text) (t : Members) (n : ℕ) → natural_at number at key t ≡ Ok n →
    (nat_le (range_of number).0 n && nat_le n (range_of number).1) ≡ true
unfolding natural_at
natural_in_range number at key t n h =
    let d = then_ok (at_key at key t) (λ d. taken_or _ (at ++ key) (number_in number (as_integer d))) n h in
    in_range (range_of number).0 (range_of number).1 (as_integer d.0) n (found _ (at ++ key) (number_in number (as_integer d.0)) n d.2)

-- a number that was read is the one that stands there
number_stands : (number : wanted.Number) (at key : Text) (t : Members) (n : ℕ) → natural_at number at key t ≡ Ok n →
    number_in number (option_and_then as_integer (get_member key t)) ≡ Some n
unfolding natural_at
number_stands number at key t n h =
    let d = then_ok (at_key at key t) (λ d. taken_or _ (at ++ key) (number_in number (as_integer d))) n h in
    ap (λ m. number_in number (option_and_then as_integer m)) (stands at key t d.0 d.1) ∙ found _ (at ++ key) (number_in number (as_integer d.0)) n d.2

-- a number with a sign too
signed_in : (low high : ℤ) (z : Option ℤ) (n : ℤ) → integer_in low high z ≡ Some n → (int_le low n && int_le n high) ≡ true
signed_in low high (Some m) n h = at (int_le low m && int_le m high) refl h
  where
    at : (b : Bool) → (int_le low m && int_le m high) ≡ b → (if b then Some m else None) ≡ Some n → (int_le low n && int_le n high) ≡ true
    at true is e = let same : m ≡ n = cc in subst (λ k. (int_le low k && int_le k high) ≡ true) same is
    at false is e = cc
signed_in low high None n h = cc

scaler_in_range : (at key : Text) (t : Members) (n : ℤ) → scaler_at at key t ≡ Ok n → is_scaler n ≡ true
unfolding scaler_at
scaler_in_range at key t n h =
    let d = then_ok (at_key at key t) (λ d. taken_or _ (at ++ key) (integer_in (negsuc 127) (pos 127) (as_integer d))) n h in
    signed_in (negsuc 127) (pos 127) (as_integer d.0) n (found _ (at ++ key) (integer_in (negsuc 127) (pos 127) (as_integer d.0)) n d.2)

-- a text of a few ASCII characters, where there is one
ascii_said : (s : Option Text) (text : Text) → ascii_in 1 64 s ≡ Some text → is_password text ≡ true
ascii_said (Some s) text h = at (has_ascii 1 64 s) refl h
  where
    at : (b : Bool) → has_ascii 1 64 s ≡ b → (if b then Some s else None) ≡ Some text → is_password text ≡ true
    at true is e = let same : s ≡ text = cc in subst (λ z. is_password z ≡ true) same is
    at false is e = cc
ascii_said None text h = cc

password_said : (at key : Text) (t : Members) (password : Option Text) → password_at at key t ≡ Ok password → is_password_or_none password ≡ true
unfolding password_at
password_said at key t password h = there (get_member key t) h
  where
    there : (d : Option Data) → optional takes.Password (λ z. ascii_in 1 64 (as_str z)) (at ++ key) d ≡ Ok password → is_password_or_none password ≡ true
    there None e = subst (λ p. is_password_or_none p ≡ true) (said None password e) refl
    there (Some d) e =
        let text = then_ok (taken_or _ (at ++ key) (ascii_in 1 64 (as_str d))) (λ x. Ok (Some x)) password e in
        subst (λ p. is_password_or_none p ≡ true) (said (Some text.0) password text.2)
        (ascii_said (as_str d) text.0 (found _ (at ++ key) (ascii_in 1 64 (as_str d)) text.0 text.1))

-- each element of an array was said at some place
each_said : {A : Type 0} (says : Text → Data → Result A Faults) (name : Text) (i : ℕ) (ds : Items) (xs : List A) → each says name i ds ≡ Ok xs →
    (x : A) → IsIn xs x → (at : Text) × (d : Data) × (says at d ≡ Ok x)
unfolding each
each_said says name i no_items [] h x none = absurd none
each_said says name i no_items (y ∷ ys) h x there = cc
each_said says name i (item d rest) xs h x there =
    let others = beside_ok (Ok in_front <*> says (element_place name i) d) (each says name (i + 1) rest) xs h in
    let first = beside_ok (Ok in_front) (says (element_place name i) d) others.0 others.2 in
    let is : in_front first.1 others.1 ≡ xs = cc in
    elim (subst (λ l. IsIn l x) (sym is) there) [
      | inl e ↦ (element_place name i, d, first.3 ∙ ap Ok (sym e))
      | inr j ↦ each_said says name (i + 1) rest others.1 others.3 x j
    ]

-- a client's service access point is in its range, and its password is of the form
client_said : (at : Text) (t : Members) (client : ClientText) → client_of at t ≡ Ok client → (has_sap client ≡ true) × (is_password_or_none client.password ≡ true)
unfolding client_of
client_said at t client h =
    let password = beside_ok _ (password_at at (codes "password") t) client (alone _ _ client h) in
    let sap = beside_ok _ (natural_at numbers.Sap at (codes "sap") t) password.0 password.2 in
    let name = beside_ok (Ok client_text) (text_at _ at (codes "name") t) sap.0 sap.2 in
    let is : client_text name.1 sap.1 password.1 ≡ client = cc in
    subst (λ c. (has_sap c ≡ true) × (is_password_or_none c.password ≡ true)) is
    (natural_in_range numbers.Sap at (codes "sap") t sap.1 sap.3, password_said at (codes "password") t password.1 password.3)

-- a table at a place says something only where it is one
table_said : {A : Type 0} (kind : kinds.KeyTakes) (says : Text → Members → Result A Faults) (at : Text) (d : Data) (x : A) → table_of kind says at d ≡ Ok x →
    (place : Text) × (t : Members) × (says place t ≡ Ok x)
table_said kind says at d x h =
    let t = then_ok (taken_or _ at (as_table d)) (λ t. says (at ++ codes ".") t) x h in
    (at ++ codes ".", t.0, t.2)

-- each table of an array at a key was said
list_said : {A : Type 0} (says : Text → Members → Result A Faults) (at key : Text) (t : Members) (xs : List A) → list_at says at key t ≡ Ok xs →
    (x : A) → IsIn xs x → (place : Text) × (table : Members) × (says place table ≡ Ok x)
unfolding array_at
list_said says at key t xs h x there =
    let d = then_ok (at_key at key t) (λ d. array_of takes.Tables (table_of takes.Tables says) (at ++ key) (as_array d)) xs h in
    let ds = then_ok (taken_or _ (at ++ key) (as_array d.0)) (λ ds. each (table_of takes.Tables says) (at ++ key) 0 ds) xs d.2 in
    let one = each_said (table_of takes.Tables says) (at ++ key) 0 ds.0 xs ds.2 x there in
    table_said _ says one.0 one.1 x one.2

-- a body of its class, whose numbers are in their ranges
abbrev IsBody : ℕ → ℕ → BodyText → Type 0
IsBody version class body = (is_body_of version class body ≡ true) × (has_ranges body ≡ true)

-- what a table says is the body of its class
data_body : (version class : ℕ) (at : Text) (t : Members) (body : BodyText) → data_of at t ≡ Ok body →
    is_of_class class classes.Data ≡ true → IsBody version class body
unfolding data_of
data_body version class at t body h is =
    let value = beside_ok (Ok DataText) (text_at _ at (codes "value") t) body (alone _ _ body h) in
    let same : DataText value.1 ≡ body = ap (λ f. f value.1) (said DataText value.0 value.2) ∙ value.4 in
    subst (IsBody version class) same (is, refl)

register_body : (version class : ℕ) (at : Text) (t : Members) (body : BodyText) → register_of at t ≡ Ok body →
    is_of_class class classes.Register ≡ true → IsBody version class body
unfolding register_of
register_body version class at t body h of_class =
    let unit = beside_ok _ (natural_at numbers.Unit at (codes "unit") t) body (alone _ _ body h) in
    let scaler = beside_ok _ (scaler_at at (codes "scaler") t) unit.0 unit.2 in
    let default = beside_ok _ (text_at _ at (codes "default") t) scaler.0 scaler.2 in
    let value = beside_ok (Ok register_text) (text_at _ at (codes "value") t) default.0 default.2 in
    let is : register_text value.1 default.1 scaler.1 unit.1 ≡ body = cc in
    let ranges = and_from (is_scaler scaler.1) (is_unit unit.1) (scaler_in_range at (codes "scaler") t scaler.1 scaler.3)
    (and_parts (nat_le 0 unit.1) (nat_le unit.1 255) (natural_in_range numbers.Unit at (codes "unit") t unit.1 unit.3)).1 in
    subst (IsBody version class) is (of_class, ranges)

-- a menu was read only where there may be one
capture_menu_said : (menus : Bool) (at : Text) (t : Members) (menu : Option (List (List CaptureText))) → capture_menu_of menus at t ≡ Ok menu →
    (menus || not (is_some menu)) ≡ true
capture_menu_said true at t menu h = refl
capture_menu_said false at t menu h = subst (λ m. not (is_some m) ≡ true) (said None menu h) refl

profile_body : (version class : ℕ) (at : Text) (t : Members) (body : BodyText) → profile_of (has_menus version) at t ≡ Ok body →
    is_of_class class classes.ProfileGeneric ≡ true → IsBody version class body
unfolding profile_of
profile_body version class at t body h of_class =
    let menu = beside_ok _ (capture_menu_of (has_menus version) at t) body (alone _ _ body h) in
    let sort_method = beside_ok _ (optional_integer_at _ at (codes "sort_method") t) menu.0 menu.2 in
    let entries = beside_ok _ (natural_at numbers.Entries at (codes "entries") t) sort_method.0 sort_method.2 in
    let period = beside_ok _ (natural_at numbers.Period at (codes "period") t) entries.0 entries.2 in
    let captures = beside_ok (Ok profile_text) (list_at capture_of at (codes "capture") t) period.0 period.2 in
    let is : profile_text captures.1 period.1 entries.1 sort_method.1 menu.1 ≡ body = cc in
    let some = (and_parts (nat_le 1 entries.1) (nat_le entries.1 (2 ^ 63 - 1)) (natural_in_range numbers.Entries at (codes "entries") t entries.1 entries.3)).0 in
    let range = (and_parts (nat_le 0 period.1) (nat_le period.1 4294967295) (natural_in_range numbers.Period at (codes "period") t period.1 period.3)).1 in
    subst (IsBody version class) is (
      and_from (is_of_class class classes.ProfileGeneric) _ of_class
          (and_from (nat_le 1 entries.1) _ some (capture_menu_said (has_menus version) at t menu.1 menu.3)),
      range,
    )

clock_body : (version class : ℕ) (at : Text) (t : Members) (body : BodyText) → clock_of at t ≡ Ok body →
    is_of_class class classes.Clock ≡ true → IsBody version class body
unfolding clock_of
clock_body version class at t body h is =
    let time = beside_ok (Ok ClockText) (text_at _ at (codes "time") t) body (alone _ _ body h) in
    let same : ClockText time.1 ≡ body = ap (λ f. f time.1) (said ClockText time.0 time.2) ∙ time.4 in
    subst (IsBody version class) same (is, refl)

-- the number of a script is in its range
script_has_number : (at : Text) (t : Members) (s : ScriptText) → script_of at t ≡ Ok s → is_script_number s.id ≡ true
unfolding script_of
script_has_number at t s h =
    let actions = beside_ok _ (list_at action_of at (codes "action") t) s (alone _ _ s h) in
    let id = beside_ok (Ok script_text) (natural_at numbers.Script at (codes "id") t) actions.0 actions.2 in
    let is : script_text id.1 actions.1 ≡ s = cc in
    subst (λ z. is_script_number z.id ≡ true) is
    (and_parts (nat_le 0 id.1) (nat_le id.1 65535) (natural_in_range numbers.Script at (codes "id") t id.1 id.3)).1

all_pass : {A : Type 0} (test : A → Bool) (xs : List A) → ((x : A) → IsIn xs x → test x ≡ true) → list_all test xs ≡ true
all_pass test [] h = refl
all_pass test (x ∷ xs) h = and_from (test x) (list_all test xs) (h x (inl refl)) (all_pass test xs (λ y i. h y (inr i)))

script_table_body : (version class : ℕ) (at : Text) (t : Members) (body : BodyText) → script_table_of at t ≡ Ok body →
    is_of_class class classes.ScriptTable ≡ true → IsBody version class body
unfolding script_table_of
script_table_body version class at t body h is =
    let scripts = beside_ok (Ok ScriptTableText) (list_at script_of at (codes "script") t) body (alone _ _ body h) in
    let ranges = all_pass (λ s. is_script_number s.id) scripts.1 (λ s there.
    let one = list_said script_of at (codes "script") t scripts.1 scripts.3 s there in
    script_has_number one.0 one.1 s one.2) in
    let same : ScriptTableText scripts.1 ≡ body = ap (λ f. f scripts.1) (said ScriptTableText scripts.0 scripts.2) ∙ scripts.4 in
    subst (IsBody version class) same (is, ranges)

monitor_body : (version class : ℕ) (at : Text) (t : Members) (body : BodyText) → monitor_of at t ≡ Ok body →
    is_of_class class classes.RegisterMonitor ≡ true → IsBody version class body
unfolding monitor_of
monitor_body version class at t body h of_class =
    let actions = beside_ok _ (list_at up_down_of at (codes "action") t) body (alone _ _ body h) in
    let thresholds = beside_ok _ (texts_at _ at (codes "thresholds") t) actions.0 actions.2 in
    let monitored = beside_ok (Ok monitor_text) (table_at target_table_of at (codes "monitored") t) thresholds.0 thresholds.2 in
    let is : monitor_text monitored.1 thresholds.1 actions.1 ≡ body = cc in
    subst (IsBody version class) is (of_class, refl)

script_menu_said : (menus : Bool) (at : Text) (t : Members) (menu : Option (List ScriptRefText)) → script_menu_of menus at t ≡ Ok menu →
    (menus || not (is_some menu)) ≡ true
script_menu_said true at t menu h = refl
script_menu_said false at t menu h = subst (λ m. not (is_some m) ≡ true) (said None menu h) refl

schedule_body : (version class : ℕ) (at : Text) (t : Members) (body : BodyText) → schedule_of (has_menus version) at t ≡ Ok body →
    is_of_class class classes.SingleActionSchedule ≡ true → IsBody version class body
unfolding schedule_of
schedule_body version class at t body h of_class =
    let menu = beside_ok _ (script_menu_of (has_menus version) at t) body (alone _ _ body h) in
    let times = beside_ok _ (texts_at _ at (codes "times") t) menu.0 menu.2 in
    let type = beside_ok _ (natural_at numbers.ScheduleType at (codes "type") t) times.0 times.2 in
    let script = beside_ok (Ok schedule_text) (table_at script_ref_of at (codes "script") t) type.0 type.2 in
    let is : schedule_text script.1 type.1 times.1 menu.1 ≡ body = cc in
    subst (IsBody version class) is (
      and_from (is_of_class class classes.SingleActionSchedule) _ of_class (script_menu_said (has_menus version) at t menu.1 menu.3),
      natural_in_range numbers.ScheduleType at (codes "type") t type.1 type.3,
    )

is_body : (version number : ℕ) (at : Text) (t : Members) (body : BodyText) → body_of (has_menus version) (class_in version number) at t ≡ Ok body →
    IsBody version number body
is_body version number at t body h = of_class (class_in version number) refl h
  where
    of_class : (class : Option Class) → class_in version number ≡ class → body_of (has_menus version) class at t ≡ Ok body →
        IsBody version number body
    of_class (Some classes.Data) is e = data_body version number at t body e (known_is_of_class version number classes.Data is)
    of_class (Some classes.Register) is e =
        register_body version number at t body e (known_is_of_class version number classes.Register is)
    of_class (Some classes.ProfileGeneric) is e =
        profile_body version number at t body e (known_is_of_class version number classes.ProfileGeneric is)
    of_class (Some classes.Clock) is e = clock_body version number at t body e (known_is_of_class version number classes.Clock is)
    of_class (Some classes.ScriptTable) is e =
        script_table_body version number at t body e (known_is_of_class version number classes.ScriptTable is)
    of_class (Some classes.RegisterMonitor) is e =
        monitor_body version number at t body e (known_is_of_class version number classes.RegisterMonitor is)
    of_class (Some classes.SingleActionSchedule) is e =
        schedule_body version number at t body e (known_is_of_class version number classes.SingleActionSchedule is)
    of_class None is e =
        subst (IsBody version number) (said UnknownText body e) (ap not (unknown_has_no_class version number is), refl)

-- the class by which an object was looked at is the one that it says
class_is : (version : ℕ) (at : Text) (t : Members) (class : ℕ) → natural_at numbers.Class at (codes "class") t ≡ Ok class → class_told version t ≡ class_in version class
class_is version at t class h = ap (option_and_then (class_in version)) (number_stands numbers.Class at (codes "class") t class h)

object_has_body : (version : ℕ) (at : Text) (t : Members) (o : ObjectText) → object_of version at t ≡ Ok o → IsBody version o.class o.body
unfolding object_of
object_has_body version at t o h =
    let body = beside_ok _ (body_of (has_menus version) (class_told version t) at t) o h in
    let fed = beside_ok _ (fed_of (class_told version t) at t) body.0 body.2 in
    let name = beside_ok _ (text_at _ at (codes "name") t) fed.0 fed.2 in
    let class = beside_ok (Ok object_text) (natural_at numbers.Class at (codes "class") t) name.0 name.2 in
    let is : object_text class.1 name.1 fed.1 body.1 ≡ o = cc in
    let of_class = subst (λ k. body_of (has_menus version) k at t ≡ Ok body.1) (class_is version at t class.1 class.3) body.3 in
    subst (λ p. IsBody version p.class p.body) is (is_body version class.1 at t body.1 of_class)

-- the version by which objects were looked at is the one that the text says
version_is : (t : Members) (version : ℕ) → natural_at numbers.Version [] (codes "version") t ≡ Ok version → told_version t ≡ version
version_is t version h = ap (λ n. unwrap_or n 1) (number_stands numbers.Version [] (codes "version") t version h)

-- the clients and the objects of a configuration are those of its tables
config_is_read : (t : Members) (c : ConfigText) → parts_of t ≡ Ok c → IsRead c
unfolding parts_of
config_is_read t c h =
    let labels = beside_ok _ (optional_list_at label_of [] (codes "label") t) c (alone _ _ c h) in
    let policy = beside_ok _ (table_at policy_of [] (codes "policy") t) labels.0 labels.2 in
    let rights = beside_ok _ (optional_list_at right_of [] (codes "right") t) policy.0 policy.2 in
    let objects = beside_ok _ (list_at (object_of (told_version t)) [] (codes "object") t) rights.0 rights.2 in
    let clients = beside_ok _ (list_at client_of [] (codes "client") t) objects.0 objects.2 in
    let version = beside_ok (Ok config_text) (natural_at numbers.Version [] (codes "version") t) clients.0 clients.2 in
    let is : config_text version.1 clients.1 objects.1 rights.1 policy.1 labels.1 ≡ c = cc in
    let told = version_is t version.1 version.3 in
    let body = λ (o : ObjectText) (there : IsIn objects.1 o).
    let one = list_said (object_of (told_version t)) [] (codes "object") t objects.1 objects.3 o there in
    subst (λ v. IsBody v o.class o.body) told (object_has_body (told_version t) one.0 one.1 o one.2) in
    subst IsRead is (record {
      version = natural_in_range numbers.Version [] (codes "version") t version.1 version.3;
      saps = λ client there.
          let one = list_said client_of [] (codes "client") t clients.1 clients.3 client there in
          (client_said one.0 one.1 client one.2).0;
      passwords = λ client there.
          let one = list_said client_of [] (codes "client") t clients.1 clients.3 client there in
          (client_said one.0 one.1 client one.2).1;
      bodies = λ o there. (body o there).0;
      ranges = λ o there. (body o there).1;
    })

-- what was read has no faults
by_first_ok : {A : Type 0} (read : Result A Faults) (x : A) → by_first read ≡ Ok x → read ≡ Ok x
by_first_ok (Ok y) x h = cc
by_first_ok (Err faults) x h = cc

-- What the tables of a text say was judged as it was read.
pub tables_are_read : (text : Text) (c : ConfigText) → tables_of text ≡ Ok c → IsRead c
unfolding tables_of
tables_are_read text c h =
    let t = then_ok (document_of text) (λ t. by_first (parts_of t)) c h in
    config_is_read t.0 c (by_first_ok (parts_of t.0) c t.2)
