-- One text has one verdict, where memory isn't refused.
use Rattle.std.proofs.Common.{◌≡◌, ℕ, ◌||◌, Bool, true, false, List, [], ◌∷◌, ◌++◌, codes, string_bytes, Result, Ok, refl, sym, ap, subst, ◌∙◌}
use Rattle.std.specs.List.{list_any}
use Rattle.value_text.specs.Texts.{cell_text}
use Rattle.value_text.specs.Edges.{edge_text}
use Rattle.cosem_data.specs.declared.clients.ClientSet.{ClientSet}
use Rattle.meter_theory.specs.Check.{Refuses}
use Rattle.meter_theory.specs.declared.flow.Label.{Label}
use Rattle.meter_theory.specs.declared.flow.Refusal.{Refusal}
use Rattle.meter_theory.specs.declared.flow.Refusal.TheVariants as theory
use Rattle.meter_theory.specs.Labels as labels
use Rattle.meter_theory.specs.Labels.{Admits, Policy, labelling_of_policy}
use Rattle.meter_theory.specs.Plan.{Plan}
use Rattle.meter_theory.specs.Sound.{IsSound}
use Rattle.meter_theory.proofs.Admission.{admits-passes, refusal-right}
use Rattle.meter_theory.proofs.Unique.{refusal-unique}
use Rattle.config_text.specs.Document.{tables_of}
use Rattle.config_text.specs.Fault.{Fault as ConfigFault, ◌>>=◌}
use Rattle.config_text.specs.Refusals.{Fails}
use Rattle.config_text.specs.Causes.{code_of}
use Rattle.config_text.specs.declared.fault.ConfigFault.{ConfigFault as FaultTold}
use Rattle.config_text.specs.declared.fault.ConfigFault.TheVariants as config
use Rattle.config_text.specs.Parts.{Text as Said, ConfigText, LabelText, SetsText}
use Rattle.config_rules.specs.Faultless.{HasNamed, IsLabelOf, AreLabelsOf, IsPolicyOf}
use Rattle.config_rules.specs.Passes.{judged}
use Rattle.config_rules.specs.PlanOf.{plan_of}
use Rattle.config_rules.proofs.Passed.{then_ok}
use Rattle.config_rules.proofs.Sound.{plan_is_sound}
use Rattle.config_reader.specs.ConfigOf.{config_of}
use Rattle.config_reader.proofs.ReadTables.{tables_are_read}
use Rattle.label_certificate.specs.Faults as label_faults
use Rattle.label_certificate.specs.declared.fault.LabelCode.{LabelCode}
use Rattle.label_certificate.specs.declared.fault.LabelFault.{LabelFault}
use Rattle.label_certificate.specs.declared.fault.LabelFault.TheVariants as label
use Rattle.label_certificate.specs.LabelText.{labels_of_text}
use Rattle.meter_theory.proofs.ClientSets.{same_members}
use Rattle.flow_checker.specs.Answer.{IsRefusedAs, IsToldAs, name_at}
use Rattle.flow_checker.specs.declared.check.Refused.{Refused as RefusedTold}
use Rattle.flow_checker.specs.declared.check.Refused.TheVariants as told
use Rattle.fleet_audit.specs.declared.text.Text.{Text}
use Rattle.verdict.specs.declared.Verdict.{Verdict}
use Rattle.verdict.specs.declared.Verdict.TheVariants.{Accepted, Config, Labels, Refused}
use Rattle.verdict.specs.Judging.{IsVerdict, IsVerdictOn}
use Rattle.fleet_audit.specs.Audits.{IsVerdictOf}
use Rattle.fleet_audit.specs.Laws.{SaysTheSame, is_want_of_memory, EqualAudits}
use Rattle.verdict.specs.Lines.{fault_line, label_fault_line, refusal_line, refused_by, verdict_line}

-- ---- a text has one plan and one policy

-- what a text says is read and has no fault, so its plan is sound
sound-plan : (text : List ℕ) (c : ConfigText) → config_of text ≡ Ok c → IsSound (plan_of c)
unfolding config_of
sound-plan text c said =
    let tables = then_ok (tables_of text) (λ d. judged d >>= (λ found. Ok d)) c said in
    let passed = then_ok (judged tables.0) (λ found. Ok tables.0) c tables.2 in
    let same : tables.0 ≡ c = cc in
    subst (λ (d : ConfigText). IsSound (plan_of d)) same (plan_is_sound tables.0 (tables_are_read text tables.0 tables.1) passed.1)

same-set : (c : ConfigText) (names : List Said) (a b : ClientSet) → HasNamed c names a → HasNamed c names b → a ≡ b
same-set c names a b h k = same_members a b (λ client. h client ∙ sym (k client))

same-label : (c : ConfigText) (s : SetsText) (l m : Label) → IsLabelOf c s l → IsLabelOf c s m → l ≡ m
same-label c s l m h k =
    let influence = same-set c s.influence l.influence m.influence h.influence k.influence in
    let learn = same-set c s.learn l.learn m.learn h.learn k.learn in
    λ i. record { influence = influence i; learn = learn i }

same-table : (c : ConfigText) (ls : List LabelText) (t u : labels.Labels) → AreLabelsOf c ls t → AreLabelsOf c ls u → t ≡ u
same-table c [] [] [] h k = refl
same-table c [] [] (f ∷ u) h k = absurd k
same-table c [] (e ∷ t) u h k = absurd h
same-table c (l ∷ ls) [] u h k = absurd h
same-table c (l ∷ ls) (e ∷ t) [] h k = absurd k
same-table c (l ∷ ls) (e ∷ t) (f ∷ u) h k =
    let cell : e.0 ≡ f.0 = h.0 ∙ sym k.0 in
    let set : e.1 ≡ f.1 = same-label c l.sets e.1 f.1 h.1 k.1 in
    let rest = same-table c ls t u h.2 k.2 in
    λ i. (cell i, set i) ∷ rest i

same-policy : (c : ConfigText) (p q : Policy) → IsPolicyOf c p → IsPolicyOf c q → p ≡ q
same-policy c p q h k =
    let table = same-table c c.labels p.table q.table h.table k.table in
    let default = same-label c c.policy p.default q.default h.default k.default in
    λ i. record { table = table i; default = default i }

-- ---- what a fault or a refusal is told as

-- a fault of the configuration has one line
config-line : (said : Result ConfigText ConfigFault) (f g : FaultTold) → Fails f said → Fails g said → is_want_of_memory (Config f) ≡ false → is_want_of_memory (Config g) ≡ false → fault_line f ≡ fault_line g
config-line said config.Memory g h k m n = cc
config-line said (config.Found first others) config.Memory h k m n = cc
config-line said (config.Found f fs) (config.Found g gs) h k m n =
    let both = sym h ∙ k in
    let same : f ≡ g = cc in
    let code : code_of f.cause ≡ code_of g.cause = ap (λ (x : ConfigFault). code_of x.cause) same in
    let place : f.place ≡ g.place = ap (λ (x : ConfigFault). x.place) same in
    rw (code, place) refl

-- a fault of the labels has one line
labels-line : {A : Type 0} (read : Result A (LabelCode × ℕ)) (f g : LabelFault) → label_faults.Fails f read → label_faults.Fails g read → is_want_of_memory (Labels f) ≡ false → is_want_of_memory (Labels g) ≡ false → label_fault_line f ≡ label_fault_line g
labels-line read label.Memory g h k m n = cc
labels-line read (label.Line c x) label.Memory h k m n = cc
labels-line read (label.Line c x) (label.Line d y) h k m n =
    let first : LabelCode × ℕ = (c, x) in
    let second : LabelCode × ℕ = (d, y) in
    let same : first ≡ second = cc in
    let code : c ≡ d = ap (λ (f : LabelCode × ℕ). f.0) same in
    let line : x ≡ y = ap (λ (f : LabelCode × ℕ). f.1) same in
    rw (code, line) refl

-- the line of a refusal that the definition names
line_of : Plan → Refusal → List ℕ
line_of P (theory.NotLabelled x) = refused_by 1 (cell_text x)
line_of P (theory.PastPolicy x) = refused_by 2 (cell_text x)
line_of P (theory.Changer c x) = refused_by 3 (name_at P c ++ (codes " " ++ cell_text x))
line_of P (theory.Reader c x) = refused_by 4 (name_at P c ++ (codes " " ++ cell_text x))
line_of P (theory.InfluenceEscapes e) = refused_by 5 (edge_text e)
line_of P (theory.LearnEscapes e) = refused_by 6 (edge_text e)

told-line : (P : Plan) (t : RefusedTold) (r : Refusal) → IsToldAs P t r → refusal_line t ≡ line_of P r
unfolding line_of
told-line P (told.NotLabelled x) r h = rw h refl
told-line P (told.PastPolicy x) r h = rw h refl
told-line P (told.Changer name x) r h = rw (h.1, h.2) refl
told-line P (told.Reader name x) r h = rw (h.1, h.2) refl
told-line P (told.InfluenceEscapes e) r h = rw h refl
told-line P (told.LearnEscapes e) r h = rw h refl
told-line P told.Memory r h = absurd h

-- but for want of memory, what is told is what the definition names
named : (P : Plan) (policy : labels.Labelling) (ls : labels.Labels) (t : RefusedTold) → IsRefusedAs P policy ls t → is_want_of_memory (Refused t) ≡ false → (r : Refusal) × Refuses P policy ls r × IsToldAs P t r
named P policy ls told.Memory h m = cc
named P policy ls (told.NotLabelled x) h m = h
named P policy ls (told.PastPolicy x) h m = h
named P policy ls (told.Changer name x) h m = h
named P policy ls (told.Reader name x) h m = h
named P policy ls (told.InfluenceEscapes e) h m = h
named P policy ls (told.LearnEscapes e) h m = h

-- a refusal has one line
refused-line : (P : Plan) (policy : labels.Labelling) (ls : labels.Labels) (t u : RefusedTold) → IsRefusedAs P policy ls t → IsRefusedAs P policy ls u → is_want_of_memory (Refused t) ≡ false → is_want_of_memory (Refused u) ≡ false → refusal_line t ≡ refusal_line u
refused-line P policy ls t u h k m n =
    let first = named P policy ls t h m in
    let second = named P policy ls u k n in
    told-line P t first.0 first.2 ∙ ap (line_of P) (refusal-unique P policy ls first.0 second.0 first.1 second.1) ∙ sym (told-line P u second.0 second.2)

-- what is refused isn't admitted
not-both : (P : Plan) (policy : labels.Labelling) (ls : labels.Labels) (t : RefusedTold) → IsSound P → Admits P policy ls → IsRefusedAs P policy ls t → is_want_of_memory (Refused t) ≡ false → ⊥
not-both P policy ls t sound a h m =
    let r = named P policy ls t h m in
    refusal-right P policy ls r.0 r.1 (admits-passes P policy ls sound a)

-- ---- one verdict

-- two verdicts on the labels for one plan and policy
on-lines : (P : Plan) (p : Policy) (text : List ℕ) (v w : Verdict) → IsSound P → IsVerdictOn P p text v → IsVerdictOn P p text w → is_want_of_memory v ≡ false → is_want_of_memory w ≡ false → verdict_line v ≡ verdict_line w
on-lines P p text (Config f) w sound h k m n = absurd h
on-lines P p text v (Config g) sound h k m n = absurd k
on-lines P p text Accepted Accepted sound h k m n = refl
on-lines P p text Accepted (Labels (label.Line code line)) sound h k m n = let e = sym h.1 ∙ k in cc
on-lines P p text Accepted (Labels label.Memory) sound h k m n = cc
on-lines P p text Accepted (Refused u) sound h k m n =
    let e = sym k.1 ∙ h.1 in
    let same : k.0 ≡ h.0 = cc in
    absurd (not-both P (labelling_of_policy P p) h.0 u sound h.2 (subst (λ ls. IsRefusedAs P (labelling_of_policy P p) ls u) same k.2) n)
on-lines P p text (Labels (label.Line code line)) Accepted sound h k m n = let e = sym h ∙ k.1 in cc
on-lines P p text (Labels label.Memory) Accepted sound h k m n = cc
on-lines P p text (Labels f) (Labels g) sound h k m n = labels-line (labels_of_text P text) f g h k m n
on-lines P p text (Labels (label.Line code line)) (Refused u) sound h k m n = let e = sym h ∙ k.1 in cc
on-lines P p text (Labels label.Memory) (Refused u) sound h k m n = cc
on-lines P p text (Refused t) Accepted sound h k m n =
    let e = sym h.1 ∙ k.1 in
    let same : h.0 ≡ k.0 = cc in
    absurd (not-both P (labelling_of_policy P p) k.0 t sound k.2 (subst (λ ls. IsRefusedAs P (labelling_of_policy P p) ls t) same h.2) m)
on-lines P p text (Refused t) (Labels (label.Line code line)) sound h k m n = let e = sym h.1 ∙ k in cc
on-lines P p text (Refused t) (Labels label.Memory) sound h k m n = cc
on-lines P p text (Refused t) (Refused u) sound h k m n =
    let e = sym k.1 ∙ h.1 in
    let same : k.0 ≡ h.0 = cc in
    refused-line P (labelling_of_policy P p) h.0 t u h.2 (subst (λ ls. IsRefusedAs P (labelling_of_policy P p) ls u) same k.2) m n

-- what a verdict other than a fault of the configuration says
abbrev Judged : Result ConfigText ConfigFault → List ℕ → Verdict → Type 0
Judged said text v = (c : ConfigText) × (policy : Policy) × (said ≡ Ok c) × IsPolicyOf c policy × IsVerdictOn (plan_of c) policy text v

both-judged : (said : Result ConfigText ConfigFault) (text : List ℕ) (v w : Verdict) → ((c : ConfigText) → said ≡ Ok c → IsSound (plan_of c)) → Judged said text v → Judged said text w → is_want_of_memory v ≡ false → is_want_of_memory w ≡ false → verdict_line v ≡ verdict_line w
both-judged said text v w sound h k m n =
    let e = sym k.2 ∙ h.2 in
    let c : k.0 ≡ h.0 = cc in
    let policy : IsPolicyOf h.0 k.1 = subst (λ d. IsPolicyOf d k.1) c k.3 in
    let p : k.1 ≡ h.1 = same-policy h.0 k.1 h.1 policy h.3 in
    let judged : IsVerdictOn (plan_of h.0) k.1 text w = subst (λ d. IsVerdictOn (plan_of d) k.1 text w) c k.4 in
    on-lines (plan_of h.0) h.1 text v w (sound h.0 h.2) h.4 (subst (λ q. IsVerdictOn (plan_of h.0) q text w) p judged) m n

-- a text has a fault or says something
not-faulty : (said : Result ConfigText ConfigFault) (f : FaultTold) (text : List ℕ) (v : Verdict) → Fails f said → Judged said text v → is_want_of_memory (Config f) ≡ false → ⊥
not-faulty said config.Memory text v h k m = cc
not-faulty said (config.Found code place) text v h k m = let e = sym h ∙ k.2 in cc

one-line : (said : Result ConfigText ConfigFault) (text : List ℕ) (v w : Verdict) → ((c : ConfigText) → said ≡ Ok c → IsSound (plan_of c)) → IsVerdict said text v → IsVerdict said text w → is_want_of_memory v ≡ false → is_want_of_memory w ≡ false → verdict_line v ≡ verdict_line w
one-line said text (Config f) (Config g) sound h k m n = config-line said f g h k m n
one-line said text (Config f) Accepted sound h k m n = absurd (not-faulty said f text Accepted h k m)
one-line said text (Config f) (Labels g) sound h k m n = absurd (not-faulty said f text (Labels g) h k m)
one-line said text (Config f) (Refused u) sound h k m n = absurd (not-faulty said f text (Refused u) h k m)
one-line said text Accepted (Config g) sound h k m n = absurd (not-faulty said g text Accepted k h n)
one-line said text (Labels f) (Config g) sound h k m n = absurd (not-faulty said g text (Labels f) k h n)
one-line said text (Refused t) (Config g) sound h k m n = absurd (not-faulty said g text (Refused t) k h n)
one-line said text Accepted Accepted sound h k m n = refl
one-line said text Accepted (Labels g) sound h k m n = both-judged said text Accepted (Labels g) sound h k m n
one-line said text Accepted (Refused u) sound h k m n = both-judged said text Accepted (Refused u) sound h k m n
one-line said text (Labels f) Accepted sound h k m n = both-judged said text (Labels f) Accepted sound h k m n
one-line said text (Labels f) (Labels g) sound h k m n = both-judged said text (Labels f) (Labels g) sound h k m n
one-line said text (Labels f) (Refused u) sound h k m n = both-judged said text (Labels f) (Refused u) sound h k m n
one-line said text (Refused t) Accepted sound h k m n = both-judged said text (Refused t) Accepted sound h k m n
one-line said text (Refused t) (Labels g) sound h k m n = both-judged said text (Refused t) (Labels g) sound h k m n
one-line said text (Refused t) (Refused u) sound h k m n = both-judged said text (Refused t) (Refused u) sound h k m n

-- two verdicts on texts that say the same
text-line : (t u : Text) (v w : Verdict) → SaysTheSame t u → IsVerdictOf t v → IsVerdictOf u w → is_want_of_memory v ≡ false → is_want_of_memory w ≡ false → verdict_line v ≡ verdict_line w
text-line t u v w same h k m n =
    let config = subst (λ text. IsVerdict (config_of text) (string_bytes u.labels) w) (sym same.config) k in
    let both = subst (λ text. IsVerdict (config_of (string_bytes t.config)) text w) (sym same.labels) config in
    one-line (config_of (string_bytes t.config)) (string_bytes t.labels) v w (sound-plan (string_bytes t.config)) h both m n

-- ---- lists of verdicts

first-had : (a b : Bool) → (a || b) ≡ false → a ≡ false
first-had true b h = h
first-had false b h = refl

rest-had : (a b : Bool) → (a || b) ≡ false → b ≡ false
rest-had true b h = cc
rest-had false b h = h

pub equal_audits : EqualAudits
equal_audits [] [] [] [] same h k m n = refl
equal_audits [] [] [] (w ∷ ws) same h k m n = absurd k
equal_audits [] [] (v ∷ vs) ws same h k m n = absurd h
equal_audits [] (y ∷ ys) vs ws same h k m n = absurd same
equal_audits (x ∷ xs) [] vs ws same h k m n = absurd same
equal_audits (x ∷ xs) (y ∷ ys) [] ws same h k m n = absurd h
equal_audits (x ∷ xs) (y ∷ ys) (v ∷ vs) [] same h k m n = absurd k
equal_audits (x ∷ xs) (y ∷ ys) (v ∷ vs) (w ∷ ws) same h k m n =
    let line : verdict_line v ≡ verdict_line w = text-line x y v w same.0 h.0 k.0 (first-had (is_want_of_memory v) (list_any is_want_of_memory vs) m) (first-had (is_want_of_memory w) (list_any is_want_of_memory ws) n) in
    let rest = equal_audits xs ys vs ws same.1 h.1 k.1 (rest-had (is_want_of_memory v) (list_any is_want_of_memory vs) m) (rest-had (is_want_of_memory w) (list_any is_want_of_memory ws) n) in
    λ i. line i ∷ rest i
