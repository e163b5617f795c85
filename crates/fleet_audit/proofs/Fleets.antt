-- Names, the files that they stand for, and how these are read in parts.
use Rattle.std.proofs.Common.{◌≡◌, ℕ, suc, ◌+◌, ◌*◌, ◌/◌, ◌%◌, ◌<◌, ◌≤◌, min, List, [], ◌∷◌, ◌++◌, length, map, take, drop, get_or, refl, sym, ap, subst, ◌∙◌, append_assoc, append-nil, arith, Result, Ok, Err, IfOk, OnOk, Global, String, string_bytes}
use Rattle.std.specs.declared.alloc.AllocError.{AllocError}
use Rattle.std.specs.List.{AllZip}
use Rattle.std.proofs.lemmas.Bool.{cases_lt}
use Rattle.std.proofs.lemmas.List.{drop_all, drop-drop, map-append, take-append-drop, take_more}
use Rattle.std.proofs.lemmas.Nat.{div-add-mod', mod_below}
use mathlib.Core.Logic.{⊎_elim}
use native.Mathlib.Nat.{add-mul, one-mul, suc-mul}
use denote.Ref.{Bor}
use Rattle.fleet_audit.specs.declared.text.Text.{Text}
use Rattle.fleet_audit.proofs.Joined.{joined}
use Rattle.fleet_audit.specs.declared.reading.Reading.{Reading}
use Rattle.fleet_audit.specs.declared.reading.UnreadFile.{UnreadFile}
use Rattle.fleet_audit.specs.Reading.{AreAllUnread, AreTextsOf, IsReadAs, IsReading, config_path, labels_path, part, texts_of, unread_of}
use Rattle.text_files.specs.Files.{MayRead}

-- names that are lent
abbrev pub Names : Type 0
Names = List (Bor (List ℕ))

-- the names themselves
abbrev pub said : Names → List (List ℕ)
said names = map (λ name. name.now) names

-- what the reading of a part came to
abbrev pub Part : Type 0
Part = Result Reading AllocError

said-append : (xs ys : Names) → said (xs ++ ys) ≡ said xs ++ said ys
said-append xs ys = map-append (λ (name : Bor (List ℕ)). name.now) xs ys

-- lists that are empty together are so by themselves
front-empty : (files more : List UnreadFile) → files ++ more ≡ [] → files ≡ []
front-empty [] more none = refl
front-empty (file ∷ files) more none = cc

behind-empty : (files more : List UnreadFile) → files ++ more ≡ [] → more ≡ []
behind-empty [] more none = none
behind-empty (file ∷ files) more none = cc

-- ---- name by name

module _ (reads : MayRead) where
  -- what isn't read of names, and of names behind them
  pub all-unread : (names behind : List (List ℕ)) (files more : List UnreadFile) → AreAllUnread reads names files → AreAllUnread reads behind more → AreAllUnread reads (names ++ behind) (files ++ more)
  all-unread [] behind files more h k = subst (λ (l : List UnreadFile). AreAllUnread reads behind (l ++ more)) (sym h) k
  all-unread (name ∷ names) behind files more h k = (
    h.0,
    h.1,
    h.2 ++ more,
    ap (λ (l : List UnreadFile). l ++ more) h.3 ∙ append_assoc (h.0 ++ h.1) h.2 more,
    h.4,
    h.5,
    all-unread names behind h.2 more h.6 k,
  )

  -- what the reading of names came to, and of names behind them
  pub read-on : (names behind : List (List ℕ)) (texts others : List Text) (files more : List UnreadFile) → IsReading reads names texts files → IsReading reads behind others more
      → IsReading reads (names ++ behind) (texts ++ others) (files ++ more)
  read-on names behind texts others files more h k =
      (all-unread names behind files more h.0 k.0, λ none. joined (AreTextsOf reads) names behind texts others (h.1 (front-empty files more none)) (k.1 (behind-empty files more none)))

  -- what the two files of a name came to
  pub named : (name : List ℕ) (config labels : Result (String Global) UnreadFile) → IsReadAs reads (config_path name) config → IsReadAs reads (labels_path name) labels
      → IsReading reads (name ∷ []) (texts_of config labels) (unread_of config ++ unread_of labels)
  named name (Ok config) (Ok labels) h k = (([], [], [], refl, (string_bytes config, h), (string_bytes labels, k), refl), λ none. (record { config = h; labels = k }, tt))
  named name (Ok config) (Err file) h k = (([], file ∷ [], [], refl, (string_bytes config, h), k, refl), λ none. cc)
  named name (Err file) (Ok labels) h k = ((file ∷ [], [], [], refl, h, (string_bytes labels, k), refl), λ none. cc)
  named name (Err file) (Err other) h k = ((file ∷ [], other ∷ [], [], refl, h, k, refl), λ none. cc)

-- so where these are put behind what names before came to
pub put-on : {A E : Type 0} (reads : MayRead) (name : List ℕ) (config labels : Result (String Global) UnreadFile) (texts others : List Text) (files more : List UnreadFile)
    → IsReadAs reads (config_path name) config → IsReadAs reads (labels_path name) labels → (r : Result A E)
    → OnOk r (others ≡ texts ++ texts_of config labels) → OnOk r (more ≡ files ++ (unread_of config ++ unread_of labels))
    → OnOk r ((names : List (List ℕ)) → IsReading reads names texts files → IsReading reads (names ++ name ∷ []) others more)
put-on reads name config labels texts others files more h k (Ok u) t f = λ names before.
    rw (t, f) (read-on reads names (name ∷ []) texts (texts_of config labels) files (unread_of config ++ unread_of labels) before (named reads name config labels h k))
put-on reads name config labels texts others files more h k (Err e) t f = tt

-- the names as far as one
pub as-far : (names : Names) (i : ℕ) (d : Bor (List ℕ)) → i < length names → said (take (i + 1) names) ≡ said (take i names) ++ (get_or names i d).now ∷ []
as-far names i d within = ap said (take_more names i d within) ∙ said-append (take i names) (get_or names i d ∷ [])

-- ---- part by part

-- parts of so many names each reach to the last name
pub reach : (count names size : ℕ) → 0 < size → count ≡ names / size + min 1 (names % size) → names ≤ count * size
reach count names size some is =
    let q = names / size in
    let r = names % size in
    let whole : q * size + r ≡ names = div-add-mod' names size in
    let short : r < size = mod_below names size some in
    ⊎_elim
    (λ h. let e : count ≡ q + 1 = omega arith in let w = ap (λ n. n * size) e ∙ add-mul q 1 size in let o = one-mul size in omega arith)
    (λ h. let e : count ≡ q = omega arith in let w = ap (λ n. n * size) e in omega arith)
    (cases_lt 0 r)

module _ (reads : MayRead) where
  -- a part of the names was read so
  abbrev pub IsPart : Names → Part → Type 0
  IsPart names part = IfOk part (λ reading. IsReading reads (said names) reading.texts.items reading.unread.items)

  -- the parts are those of the names, so many names each
  abbrev pub Deals : ℕ → Names → List Part → Type 0
  Deals size names [] = names ≡ []
  Deals size names (first ∷ parts) = IsPart (take size names) first × Deals size (drop size names) parts

  -- parts that begin at the places of their numbers, up to the last name
  pub dealt : (size : ℕ) (names : Names) (n : ℕ) (parts : List Part) → length names ≤ (n + length parts) * size →
      ((i : ℕ) (d : Part) → i < length parts → IsPart (part names size (n + i)) (get_or parts i d)) →
      Deals size (drop (n * size) names) parts
  dealt size names n [] short each = drop_all (n * size) names (omega arith)
  dealt size names n (first ∷ parts) short each =
      let here : n + 0 ≡ n = omega arith in
      let next : drop size (drop (n * size) names) ≡ drop (suc n * size) names = drop-drop size (n * size) names ∙ ap (λ k. drop k names) (sym (suc-mul n size)) in (
        subst (λ k. IsPart (part names size k) first) here (each 0 first (omega arith)),
        subst (λ (l : Names). Deals size l parts) (sym next) (dealt size names (suc n) parts
            (let e : suc n + length parts ≡ n + suc (length parts) = omega arith in subst (λ k. length names ≤ k * size) (sym e) short)
            (λ i d within. let e : n + suc i ≡ suc n + i = omega arith in subst (λ k. IsPart (part names size k) (get_or parts i d)) e (each (suc i) d (omega arith)))),
      )

  -- how far the names are read: the reading of those that are done came to this, and the parts of the others are left
  pub record IsSoFar (size : ℕ) (names : Names) (texts : List Text) (files : List UnreadFile) (parts : List Part) : Type 0 where
    pub done : Names
    pub left : Names
    pub are : names ≡ done ++ left
    pub read : IsReading reads (said done) texts files
    pub deals : Deals size left parts

  pub begun : (size : ℕ) (names : Names) (texts : List Text) (files : List UnreadFile) (parts : List Part) → texts ≡ [] → files ≡ [] → Deals size names parts → IsSoFar size names texts files parts
  begun size names texts files parts no_texts no_files deals = record { done = []; left = names; are = refl; read = (no_files, λ none. subst (AllZip (AreTextsOf reads) []) (sym no_texts) tt); deals = deals }

  pub gone_on : (size : ℕ) (names : Names) (texts : List Text) (files : List UnreadFile) (more : Reading) (parts : List Part) → IsSoFar size names texts files (Ok more ∷ parts)
      → IsSoFar size names (texts ++ more.texts.items) (files ++ more.unread.items) parts
  gone_on size names texts files more parts h = record {
    done = h.done ++ take size h.left;
    left = drop size h.left;
    are = h.are ∙ ap (λ (l : Names). h.done ++ l) (sym (take-append-drop size h.left)) ∙ sym (append_assoc h.done (take size h.left) (drop size h.left));
    read = subst (λ (l : List (List ℕ)). IsReading reads l (texts ++ more.texts.items) (files ++ more.unread.items)) (sym (said-append h.done (take size h.left)))
        (read-on reads (said h.done) (said (take size h.left)) texts more.texts.items files more.unread.items h.read h.deals.0);
    deals = h.deals.1;
  }

  pub ended : (size : ℕ) (names : Names) (texts : List Text) (files : List UnreadFile) → IsSoFar size names texts files [] → IsReading reads (said names) texts files
  ended size names texts files h =
      let whole : h.done ≡ names = sym (append-nil h.done) ∙ ap (λ (l : Names). h.done ++ l) (sym h.deals) ∙ sym h.are in
      subst (λ (l : Names). IsReading reads (said l) texts files) whole h.read
