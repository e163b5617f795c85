-- A line of labels is read from its text, and from no other.
use Rattle.std.proofs.Common.{◌≡◌, ◌≢◌, not, eqb, ℕ, ◌-◌, ◌<◌, ◌^◌, Bool, true, false, cond, List, [], ◌∷◌, ◌++◌, length, Option, Some, None, option_map, refl, sym, ap, subst, ◌∙◌, arith, inl, inr}
use Rattle.std.specs.Prelude.{codes, IfSome}
use Rattle.std.specs.Fmt.{decimal}
use Rattle.std.specs.List.{join_with_byte, list_all}
use Rattle.std.proofs.lemmas.Bool.{and_parts, not-true, eq-eqb, true≢false}
use Rattle.std.specs.Str.{bytes_eq}
use Rattle.std.proofs.lemmas.List.Elements.{All-from_recursion, recursion_from_All}
use Rattle.std.proofs.lemmas.List.Splits.{join_with_byte-slice_split}
use Rattle.std.proofs.lemmas.Slice.Eq.{bytes_eq-Decides}
use Rattle.cosem_data.specs.Digits.{◌>>=◌, name_at}
use Rattle.cosem_data.specs.Names.{name_text}
use Rattle.cosem_data.specs.declared.name.LogicalName.{LogicalName}
use Rattle.cosem_data.proofs.Decimals.{name_takes, text_gives}
use Rattle.value_text.specs.Texts.{name_in}
use Rattle.value_words.specs.Stopping.{behind}
use Rattle.value_words.specs.WordReading.{number_in}
use Rattle.value_words.proofs.Behind.{behind-again, behind-takes}
use Rattle.value_words.proofs.Decimals.{number_takes, number_low, number_gives}
use Rattle.value_words.proofs.NameBytes.{bind_some, IsNameRead, name_read}
use Rattle.label_certificate.specs.LabelLine.{LabelLine, IsLabelLine, are_client_names, attribute_text, names_text, line_cell_text, line_text, parts, three, attribute_in, names_of, names_in, names_after, label_line_at}
use Rattle.label_certificate.proofs.Joined.{Lacks, EachLacks, IsNoNameByte, lacks_append, parts_joined, lacks_joined, lacks_decimal, lacks_name, lacks_names, names_lack, no_dash}
use Rattle.label_certificate.proofs.Parts.{parts-some}

-- ---- what is read stands there

three_takes : (ps : List (List ℕ)) (x : List ℕ × List ℕ × List ℕ) → three ps ≡ Some x → ps ≡ x.0 ∷ x.1 ∷ x.2 ∷ []
three_takes [] x e = absurd cc
three_takes (a ∷ []) x e = absurd cc
three_takes (a ∷ b ∷ []) x e = absurd cc
three_takes (a ∷ b ∷ c ∷ []) x e = let is : (a, b, c) ≡ x = cc in ap (λ (y : List ℕ × List ℕ × List ℕ). y.0 ∷ y.1 ∷ y.2 ∷ []) is
three_takes (a ∷ b ∷ c ∷ d ∷ more) x e = absurd cc

parts_taken : (separator : ℕ) (text : List ℕ) (x : List ℕ × List ℕ × List ℕ) → three (parts separator text) ≡ Some x → text ≡ join_with_byte separator (x.0 ∷ x.1 ∷ x.2 ∷ [])
parts_taken separator text x e = sym (join_with_byte-slice_split separator text) ∙ ap (join_with_byte separator) (three_takes (parts separator text) x e)

names_joined : (names : List (List ℕ)) → 0 < length names → names_text names ≡ join_with_byte 44 names
names_joined [] some = absurd (omega arith)
names_joined (name ∷ names) some = refl

names_taken : (text : List ℕ) (names : List (List ℕ)) → names_in text ≡ Some names → (are_client_names names ≡ true) × (text ≡ names_text names)
names_taken text names e = at (are_client_names (names_of text)) refl e
  where
    written : (b : Bool) → bytes_eq text (codes "-") ≡ b → text ≡ names_text (cond b [] (parts 44 text))
    written true is = (bytes_eq-Decides text (codes "-")).0 is
    written false is = sym (names_joined (parts 44 text) (parts-some 44 text) ∙ join_with_byte-slice_split 44 text)

    at : (b : Bool) → are_client_names (names_of text) ≡ b → cond b (Some (names_of text)) None ≡ Some names → (are_client_names names ≡ true) × (text ≡ names_text names)
    at false is h = absurd cc
    at true is h = let same : names_of text ≡ names = cc in (ap are_client_names (sym same) ∙ is, written (bytes_eq text (codes "-")) refl ∙ ap names_text same)

names_behind_taken : (word text : List ℕ) (names : List (List ℕ)) → names_after word text ≡ Some names → (are_client_names names ≡ true) × (text ≡ word ++ names_text names)
names_behind_taken word text names e =
    let b = bind_some (behind word text) names_in names e in
    let n = names_taken b.0 names b.2 in
    (n.0, behind-takes word text b.0 b.1 ∙ ap (λ t. word ++ t) n.1)

attribute_taken : (text : List ℕ) (attribute : Option ℕ) → attribute_in text ≡ Some attribute → (text ≡ attribute_text attribute) × IfSome attribute (λ n. n < 2 ^ 8)
attribute_taken text attribute e = at (bytes_eq text (codes "seen")) refl e
  where
    numbered : (found : Option ℕ) → number_in (2 ^ 8 - 1) text ≡ found → option_map Some found ≡ Some attribute → (text ≡ attribute_text attribute) × IfSome attribute (λ n. n < 2 ^ 8)
    numbered None is h = absurd cc
    numbered (Some n) is h =
        let same : Some n ≡ attribute = cc in
        let low = number_low (2 ^ 8 - 1) n text is in
        subst (λ (a : Option ℕ). (text ≡ attribute_text a) × IfSome a (λ m. m < 2 ^ 8)) same (number_takes (2 ^ 8 - 1) n text (omega arith) is, omega arith)

    at : (b : Bool) → bytes_eq text (codes "seen") ≡ b → cond b (Some None) (option_map Some (number_in (2 ^ 8 - 1) text)) ≡ Some attribute → (text ≡ attribute_text attribute) × IfSome attribute (λ n. n < 2 ^ 8)
    at true is h =
        let same : None ≡ attribute = cc in
        subst (λ (a : Option ℕ). (text ≡ attribute_text a) × IfSome a (λ m. m < 2 ^ 8)) same ((bytes_eq-Decides text (codes "seen")).0 is, tt)
    at false is h = numbered (number_in (2 ^ 8 - 1) text) refl h

name_taken : (text : List ℕ) (name : LogicalName) → name_in text ≡ Some name → (text ≡ name_text name.0) × IsNameRead name.0
name_taken text name e = at (name_at text) refl e
  where
    made : List ℕ → LogicalName
    made bytes = record { 0 = bytes }

    at : (found : Option (List ℕ)) → name_at text ≡ found → option_map made found ≡ Some name → (text ≡ name_text name.0) × IsNameRead name.0
    at None is h = absurd cc
    at (Some bytes) is h =
        let same : made bytes ≡ name = cc in
        subst (λ (n : LogicalName). (text ≡ name_text n.0) × IsNameRead n.0) same (name_takes text bytes is, name_read text bytes is)

-- a line that is read is the text of what it says, which has the form
pub line_takes : (line : List ℕ) (l : LabelLine) → label_line_at line ≡ Some l → IsLabelLine l × (line ≡ line_text l)
unfolding label_line_at
line_takes line l h =
    let words = bind_some (three (parts 32 line)) _ l h in
    let cell = bind_some (three (parts 47 words.0.0)) _ l words.2 in
    let class = bind_some (number_in (2 ^ 16 - 1) cell.0.0) _ l cell.2 in
    let name = bind_some (name_in cell.0.1) _ l class.2 in
    let attribute = bind_some (attribute_in cell.0.2) _ l name.2 in
    let influence = bind_some (names_after (codes "influence=") words.0.1) _ l attribute.2 in
    let learn = bind_some (names_after (codes "learn=") words.0.2) _ l influence.2 in
    let made : LabelLine = record { class_id = class.0; name = name.0; attribute = attribute.0; influence = influence.0; learn = learn.0 } in
    let same : made ≡ l = some_line made l learn.2 in
    let class_is = number_takes (2 ^ 16 - 1) class.0 cell.0.0 (omega arith) class.1 in
    let class_low = number_low (2 ^ 16 - 1) class.0 cell.0.0 class.1 in
    let name_is = name_taken cell.0.1 name.0 name.1 in
    let attribute_is = attribute_taken cell.0.2 attribute.0 attribute.1 in
    let influence_is = names_behind_taken (codes "influence=") words.0.1 influence.0 influence.1 in
    let learn_is = names_behind_taken (codes "learn=") words.0.2 learn.0 learn.1 in
    let cell_is : words.0.0 ≡ line_cell_text made =
    parts_taken 47 words.0.0 cell.0 cell.1
    ∙ ap (λ t. join_with_byte 47 (t ∷ cell.0.1 ∷ cell.0.2 ∷ [])) class_is
    ∙ ap (λ t. join_with_byte 47 (decimal class.0 ∷ t ∷ cell.0.2 ∷ [])) name_is.0
    ∙ ap (λ t. join_with_byte 47 (decimal class.0 ∷ name_text name.0.0 ∷ t ∷ [])) attribute_is.0 in
    let whole : line ≡ line_text made =
    parts_taken 32 line words.0 words.1
    ∙ ap (λ t. join_with_byte 32 (t ∷ words.0.1 ∷ words.0.2 ∷ [])) cell_is
    ∙ ap (λ t. join_with_byte 32 (line_cell_text made ∷ t ∷ words.0.2 ∷ [])) influence_is.1
    ∙ ap (λ t. join_with_byte 32 (line_cell_text made ∷ (codes "influence=" ++ names_text influence.0) ∷ t ∷ [])) learn_is.1 in
    let form : IsLabelLine made = record {
      class_id = omega (arith, class_low);
      name_bytes = All-from_recursion (λ b. b < 256) name.0.0 name_is.1.small;
      name_length = name_is.1.long;
      attribute = attribute_is.1;
      influence = influence_is.0;
      learn = learn_is.0;
    } in
    subst (λ (m : LabelLine). IsLabelLine m × (line ≡ line_text m)) same (form, whole)
  where
    some_line : (a b : LabelLine) → Some a ≡ Some b → a ≡ b
    some_line a b e = cc

-- ---- what stands there is read

names_given : (names : List (List ℕ)) → are_client_names names ≡ true → names_in (names_text names) ≡ Some names
names_given [] h = refl
names_given (name ∷ names) h =
    let text = join_with_byte 44 (name ∷ names) in
    let taken : names_of text ≡ name ∷ names =
    ap (λ b. cond b [] (parts 44 text)) (no_dash name names h) ∙ parts_joined 44 name names (names_lack 44 (name ∷ names) refl h) in
    ap (λ ns. cond (are_client_names ns) (Some ns) None) taken ∙ ap (λ b. cond b (Some (name ∷ names)) None) h

names_behind_given : (word : List ℕ) (names : List (List ℕ)) → are_client_names names ≡ true → names_after word (word ++ names_text names) ≡ Some names
names_behind_given word names h = ap (λ r. r >>= names_in) (behind-again word (names_text names)) ∙ names_given names h

attribute_given : (attribute : Option ℕ) → IfSome attribute (λ n. n < 2 ^ 8) → attribute_in (attribute_text attribute) ≡ Some attribute
attribute_given None h = refl
attribute_given (Some n) h = at (bytes_eq (decimal n) (codes "seen")) refl
  where
    other : bytes_eq (decimal n) (codes "seen") ≡ true → ⊥
    other e = (subst (Lacks 115) ((bytes_eq-Decides (decimal n) (codes "seen")).0 e) (lacks_decimal 115 n (inr (omega arith)) (omega arith))).0 refl

    at : (b : Bool) → bytes_eq (decimal n) (codes "seen") ≡ b → cond b (Some None) (option_map Some (number_in (2 ^ 8 - 1) (decimal n))) ≡ Some (Some n)
    at true is = absurd (other is)
    at false is = ap (option_map Some) (number_gives (2 ^ 8 - 1) n (decimal n) (omega arith) (omega arith) refl)

lacks_attribute : (c : ℕ) (attribute : Option ℕ) → c < 48 → IfSome attribute (λ n. n < 2 ^ 8) → Lacks c (attribute_text attribute)
lacks_attribute c None low h = ((λ e. omega arith), ((λ e. omega arith), ((λ e. omega arith), ((λ e. omega arith), tt))))
lacks_attribute c (Some n) low h = lacks_decimal c n (inl low) (omega arith)

lacks_word : (c : ℕ) (word : List ℕ) → list_all (λ b. not (eqb b c)) word ≡ true → Lacks c word
lacks_word c [] h = tt
lacks_word c (b ∷ word) h =
    let both = and_parts (not (eqb b c)) (list_all (λ x. not (eqb x c)) word) h in
    ((λ e. true≢false (sym (eq-eqb b c e) ∙ not-true (eqb b c) both.0)), lacks_word c word both.1)

-- the words of a line have no spaces and no newlines
line_words_lack : (c : ℕ) (l : LabelLine) → IsLabelLine l → c < 44 → IsNoNameByte c → Lacks c (codes "influence=") → Lacks c (codes "learn=") →
    EachLacks c (line_cell_text l ∷ (codes "influence=" ++ names_text l.influence) ∷ (codes "learn=" ++ names_text l.learn) ∷ [])
line_words_lack c l h low none influence learn =
    let low_48 : c < 48 = omega arith in
    let comma : 44 ≢ c = λ e. omega arith in
    let dash : 45 ≢ c = λ e. omega arith in
    let dot : 46 ≢ c = λ e. omega arith in
    let slash : 47 ≢ c = λ e. omega arith in
    let small = recursion_from_All (λ b. b < 256) l.name.0 h.name_bytes in
    let class_low : l.class_id < 2 ^ 64 = omega (arith, h.class_id) in (
      lacks_joined c 47 (decimal l.class_id ∷ name_text l.name.0 ∷ attribute_text l.attribute ∷ []) slash
          (lacks_decimal c l.class_id (inl low_48) class_low, (lacks_name c l.name.0 (inl low_48) dot small, (lacks_attribute c l.attribute low_48 h.attribute, tt))),
      (
        lacks_append c (codes "influence=") (names_text l.influence) influence (lacks_names c l.influence none comma dash h.influence),
        (lacks_append c (codes "learn=") (names_text l.learn) learn (lacks_names c l.learn none comma dash h.learn), tt),
      ),
    )

-- the text of a line has no newline
pub line_has_no_end : (l : LabelLine) → IsLabelLine l → Lacks 10 (line_text l)
line_has_no_end l h =
    lacks_joined 10 32 (line_cell_text l ∷ (codes "influence=" ++ names_text l.influence) ∷ (codes "learn=" ++ names_text l.learn) ∷ []) (λ e. omega arith)
    (line_words_lack 10 l h (omega arith) refl (lacks_word 10 (codes "influence=") refl) (lacks_word 10 (codes "learn=") refl))

bind_at : {A B : Type 0} (o : Option A) (f : A → Option B) (x : A) (r : Option B) → o ≡ Some x → f x ≡ r → (o >>= f) ≡ r
bind_at o f x r p q = ap (λ s. s >>= f) p ∙ q

-- the text of a line is read as what it says
pub line_gives : (l : LabelLine) → IsLabelLine l → label_line_at (line_text l) ≡ Some l
unfolding label_line_at
line_gives l h =
    let small = recursion_from_All (λ b. b < 256) l.name.0 h.name_bytes in
    let class_low : l.class_id < 2 ^ 64 = omega (arith, h.class_id) in
    let influence_text = codes "influence=" ++ names_text l.influence in
    let learn_text = codes "learn=" ++ names_text l.learn in
    let words : three (parts 32 (line_text l)) ≡ Some (line_cell_text l, influence_text, learn_text) =
    ap three (parts_joined 32 (line_cell_text l) (influence_text ∷ learn_text ∷ [])
    (line_words_lack 32 l h (omega arith) refl (lacks_word 32 (codes "influence=") refl) (lacks_word 32 (codes "learn=") refl))) in
    let cell : three (parts 47 (line_cell_text l)) ≡ Some (decimal l.class_id, name_text l.name.0, attribute_text l.attribute) =
    ap three (parts_joined 47 (decimal l.class_id) (name_text l.name.0 ∷ attribute_text l.attribute ∷ [])
    (lacks_decimal 47 l.class_id (inl (omega arith)) class_low, (lacks_name 47 l.name.0 (inl (omega arith)) (λ e. omega arith) small, (lacks_attribute 47 l.attribute (omega arith) h.attribute, tt)))) in
    let name : name_in (name_text l.name.0) ≡ Some l.name = ap (option_map (λ bytes. record { 0 = bytes })) (text_gives (name_text l.name.0) l.name h.name_bytes h.name_length refl) in
    bind_at _ _ _ _ words
    (bind_at _ _ _ _ cell
    (bind_at _ _ _ _ (number_gives (2 ^ 16 - 1) l.class_id (decimal l.class_id) (omega arith) (omega (arith, h.class_id)) refl)
    (bind_at _ _ _ _ name
    (bind_at _ _ _ _ (attribute_given l.attribute h.attribute)
    (bind_at _ _ _ _ (names_behind_given (codes "influence=") l.influence h.influence)
    (bind_at _ _ _ _ (names_behind_given (codes "learn=") l.learn h.learn) refl))))))
