-- How a command line ends that is no command.
use Rattle.std.proofs.Common.{◌≡◌, ◌⊎◌, ◌<◌, ◌++◌, ℕ, Bool, true, false, List, [], Option, length, length-append, refl, sym, ap, inl, inr, arith, ◌∙◌}
use Rattle.command_words.specs.declared.fault.WordsFault.{WordsFault}
use Rattle.command_words.specs.declared.fault.WordsFault.TheVariants as words
use Rattle.meter_server.specs.Outcomes.{output_of, status_of, unless_closed}
use Rattle.meter_server.specs.Program.{AreMistaken, AskForHelp, IsNoCommand, TellsVerdict}
use Rattle.whole_writes.specs.declared.fault.ListFault.TheVariants.{Write, Memory}
use Rattle.meter_server.specs.declared.outcome.Outcome.{Outcome}
use Rattle.meter_server.specs.declared.outcome.Outcome.TheVariants.{Done, Warned, Judged, JudgedWhole, JudgedSide, Compared, Words, Unread, UnreadFleet, Stranger, Fault, Broken, Unserved, Unbound, Unstored, Audited, Unaudited, Unwritten, Untranslated, Closed}

-- of no text a write leaves nothing
nothing-left : (front left : List ℕ) → [] ≡ front ++ left → 0 < length left → ⊥
nothing-left front left whole some = omega (arith, length-append front left, ap length whole, some)

-- words are told, or memory is refused for that, where nothing is written of them
words-told : (fault : WordsFault) (told : Outcome) (closed : Bool) (before after : Option (List ℕ)) → output_of (Words fault) ≡ [] → TellsVerdict (Words fault) before after told
    → (status_of (unless_closed told closed) ≡ status_of (Words fault)) ⊎ (status_of (unless_closed told closed) ≡ 3)
words-told fault told true before after none (inl h) = inl (ap (λ o. status_of (unless_closed o true)) h.0)
words-told fault told false before after none (inl h) = inl (ap (λ o. status_of (unless_closed o false)) h.0)
words-told fault told closed before after none (inr (Write, is, cut)) = absurd (nothing-left cut.0 cut.1 (sym none ∙ cut.2) cut.4)
words-told fault told true before after none (inr (Memory, is, cut)) = inr (ap (λ o. status_of (unless_closed o true)) is)
words-told fault told false before after none (inr (Memory, is, cut)) = inr (ap (λ o. status_of (unless_closed o false)) is)

-- a text that words ask for is written, or memory is refused for it, or a write fails
text-told : (fault : WordsFault) (told : Outcome) (closed : Bool) (before after : Option (List ℕ)) → TellsVerdict (Words fault) before after told
    → (status_of (unless_closed told closed) ≡ status_of (Words fault)) ⊎ (status_of (unless_closed told closed) ≡ 3) ⊎ (status_of (unless_closed told closed) ≡ 141)
text-told fault told true before after (inl h) = inl (ap (λ o. status_of (unless_closed o true)) h.0)
text-told fault told false before after (inl h) = inl (ap (λ o. status_of (unless_closed o false)) h.0)
text-told fault told true before after (inr (Write, is, cut)) = inr (inr (ap (λ o. status_of (unless_closed o true)) is))
text-told fault told false before after (inr (Write, is, cut)) = inr (inl (ap (λ o. status_of (unless_closed o false)) is))
text-told fault told true before after (inr (Memory, is, cut)) = inr (inl (ap (λ o. status_of (unless_closed o true)) is))
text-told fault told false before after (inr (Memory, is, cut)) = inr (inl (ap (λ o. status_of (unless_closed o false)) is))

-- a wrong command line ends with status 2, or with 3 where memory was refused
pub mistaken-ends : (ws : List (List ℕ)) → AreMistaken ws → (outcome told : Outcome) (closed : Bool) (before after : Option (List ℕ)) → IsNoCommand ws outcome → TellsVerdict outcome before after told
    → (status_of (unless_closed told closed) ≡ 2) ⊎ (status_of (unless_closed told closed) ≡ 3)
mistaken-ends ws mistaken (Words (words.Help text)) told closed before after h t = absurd (mistaken.no_help h)
mistaken-ends ws mistaken (Words (words.Version text)) told closed before after h t = absurd (mistaken.no_version h)
mistaken-ends ws mistaken (Words (words.Usage text)) told closed before after h t = words-told (words.Usage text) told closed before after refl t
mistaken-ends ws mistaken (Words words.Memory) told closed before after h t = elim (words-told words.Memory told closed before after refl t) [ inl e ↦ inr e | inr e ↦ inr e ]
mistaken-ends ws mistaken Done told closed before after h t = absurd h
mistaken-ends ws mistaken (Judged verdict text) told closed before after h t = absurd h
mistaken-ends ws mistaken (JudgedWhole verdict failures text) told closed before after h t = absurd h
mistaken-ends ws mistaken (JudgedSide side verdict text) told closed before after h t = absurd h
mistaken-ends ws mistaken (Compared gives) told closed before after h t = absurd h
mistaken-ends ws mistaken (Warned warnings) told closed before after h t = absurd h
mistaken-ends ws mistaken (Unread file why) told closed before after h t = absurd h
mistaken-ends ws mistaken (Stranger text) told closed before after h t = absurd h
mistaken-ends ws mistaken (Fault fault) told closed before after h t = absurd h
mistaken-ends ws mistaken (Broken fault) told closed before after h t = absurd h
mistaken-ends ws mistaken (Unserved fault) told closed before after h t = absurd h
mistaken-ends ws mistaken (Unbound place fault) told closed before after h t = absurd h
mistaken-ends ws mistaken (Unstored file fault) told closed before after h t = absurd h
mistaken-ends ws mistaken (UnreadFleet files) told closed before after h t = absurd h
mistaken-ends ws mistaken (Audited text accepts explanation) told closed before after h t = absurd h
mistaken-ends ws mistaken (Unaudited fault) told closed before after h t = absurd h
mistaken-ends ws mistaken (Unwritten fault) told closed before after h t = absurd h
mistaken-ends ws mistaken (Untranslated fault) told closed before after h t = absurd h
mistaken-ends ws mistaken Closed told closed before after h t = absurd h

-- help and the version end with status 0, or with 3 or 141 where memory was refused or they couldn't be written
pub helped-ends : (ws : List (List ℕ)) → AskForHelp ws → (outcome told : Outcome) (closed : Bool) (before after : Option (List ℕ)) → IsNoCommand ws outcome → TellsVerdict outcome before after told
    → (status_of (unless_closed told closed) ≡ 0) ⊎ (status_of (unless_closed told closed) ≡ 3) ⊎ (status_of (unless_closed told closed) ≡ 141)
helped-ends ws asks (Words (words.Help text)) told closed before after h t = text-told (words.Help text) told closed before after t
helped-ends ws asks (Words (words.Version text)) told closed before after h t = text-told (words.Version text) told closed before after t
helped-ends ws asks (Words (words.Usage text)) told closed before after mistake t = absurd (asks.no_mistake mistake)
helped-ends ws asks (Words words.Memory) told closed before after h t = elim (words-told words.Memory told closed before after refl t) [ inl e ↦ inr (inl e) | inr e ↦ inr (inl e) ]
helped-ends ws asks Done told closed before after h t = absurd h
helped-ends ws asks (Judged verdict text) told closed before after h t = absurd h
helped-ends ws asks (JudgedWhole verdict failures text) told closed before after h t = absurd h
helped-ends ws asks (JudgedSide side verdict text) told closed before after h t = absurd h
helped-ends ws asks (Compared gives) told closed before after h t = absurd h
helped-ends ws asks (Warned warnings) told closed before after h t = absurd h
helped-ends ws asks (Unread file why) told closed before after h t = absurd h
helped-ends ws asks (Stranger text) told closed before after h t = absurd h
helped-ends ws asks (Fault fault) told closed before after h t = absurd h
helped-ends ws asks (Broken fault) told closed before after h t = absurd h
helped-ends ws asks (Unserved fault) told closed before after h t = absurd h
helped-ends ws asks (Unbound place fault) told closed before after h t = absurd h
helped-ends ws asks (Unstored file fault) told closed before after h t = absurd h
helped-ends ws asks (UnreadFleet files) told closed before after h t = absurd h
helped-ends ws asks (Audited text accepts explanation) told closed before after h t = absurd h
helped-ends ws asks (Unaudited fault) told closed before after h t = absurd h
helped-ends ws asks (Unwritten fault) told closed before after h t = absurd h
helped-ends ws asks (Untranslated fault) told closed before after h t = absurd h
helped-ends ws asks Closed told closed before after h t = absurd h
