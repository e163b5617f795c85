-- What is printed of the trail in a file that the words of a command line name. All of it is own profile.
use Rattle.std.specs.Prelude.{◌≡◌, ◌⊎◌, Bool, cond, List, [], ℕ, Option, None, Some, option_map, string_bytes, codes}
use Rattle.std.specs.Io.KnownBytes.{Appends}
use Rattle.meter_server.specs.Files.{ByFile}
use Rattle.whole_writes.specs.declared.fault.ListFault.TheVariants as lists
use Rattle.meter_server.specs.declared.outcome.Outcome.{Outcome}
use Rattle.meter_server.specs.declared.outcome.Outcome.TheVariants.{Done, Stranger, Unstored, Unwritten}
use Rattle.step_stores.specs.declared.fault.StoreFault.TheVariants.{Trail}
use Rattle.text_files.specs.Files.{MayRead}
use Rattle.trail_file.specs.Opening.{IsDamaged}
use Rattle.trail_file.specs.Text.{recovered}
use Rattle.trail_file.specs.declared.fault.TrailFault.TheVariants.{Damaged, Foreign}
use Rattle.trail_words.specs.Printing.{EndsWhole, HasNoHead, IsBegun, IsBegunOrNone, IsPrinted}
use Rattle.trail_words.specs.declared.form.TrailForm.{TrailForm}
use Rattle.trail_words.specs.declared.form.TrailForm.TheVariants.{Lines, Json}
use Rattle.trail_words.specs.declared.wanted.Wanted.{Wanted}
use Rattle.utc_moment.specs.Moments.{bare_text, moment_text}
use Rattle.utc_moment.specs.declared.moment.UtcMoment.{UtcMoment}

-- the form that is asked for
abbrev pub form_asked : (is_json : Bool) → TrailForm
form_asked is_json = cond is_json Json Lines

-- a moment has this text, with its Z or without
abbrev pub IsMomentOf : Option (List ℕ) → Option UtcMoment → Type 0
IsMomentOf None None = Unit {0}
IsMomentOf (Some text) (Some moment) = (text ≡ moment_text moment) ⊎ (text ≡ bare_text moment)
IsMomentOf text moment = ⊥

-- which steps the words want: those of the client with this name, and those from the moment with this text on
abbrev pub IsWanted : (client since : Option (List ℕ)) → Wanted → Type 0
IsWanted client since wanted = (option_map (λ name. name.now) wanted.client ≡ client) × IsMomentOf since wanted.since

-- no moment has the text that the words give
abbrev pub IsNoMoment : (since : Option (List ℕ)) → Type 0
IsNoMoment since = (moment : Option UtcMoment) → IsMomentOf since moment → ⊥

-- a text of the words is no moment, which a command tells; or memory was refused for that
abbrev pub TellsNoMoment : Outcome → Type 0
TellsNoMoment (Stranger told) = string_bytes told ≡ codes "`--since` asks for a moment like 2026-03-01T00:00:00"
TellsNoMoment (Unwritten lists.Memory) = Unit {0}
TellsNoMoment _ = ⊥

-- how the trail that the text of a file is is printed: all that is wanted of it; nothing, where it is none; all before its last entry, where that isn't whole; or a
-- beginning of what is wanted, where a write failed or memory was refused
abbrev pub PrintsText : TrailForm → Wanted → (path file : List ℕ) → (before after : Option (List ℕ)) → Outcome → Type 0
PrintsText form wanted path file before after Done = IsPrinted form wanted file before after × EndsWhole file
PrintsText form wanted path file before after (Unstored told (Trail Foreign)) = (string_bytes told ≡ path) × HasNoHead (recovered file) × Appends before after []
PrintsText form wanted path file before after (Unstored told (Trail Damaged)) = (string_bytes told ≡ path) × IsDamaged file × IsPrinted form wanted file before after
PrintsText form wanted path file before after (Unwritten lists.Write) = IsBegun form wanted file 1 before after
PrintsText form wanted path file before after (Unwritten lists.Memory) = IsBegunOrNone form wanted file before after
PrintsText form wanted path file before after _ = ⊥

-- how the trail in a file is printed: as the words want it; or the text of their moment is none, and nothing is written
abbrev pub PrintsTrail : MayRead → (path : List ℕ) → (client since : Option (List ℕ)) → (is_json : Bool) → (before after : Option (List ℕ)) → Outcome → Type 0
PrintsTrail reads path client since is_json before after outcome =
    (IsNoMoment since × TellsNoMoment outcome × (after ≡ before))
    ⊎ ((wanted : Wanted) × IsWanted client since wanted × ByFile reads path (λ source. PrintsText (form_asked is_json) wanted path source.text.now before after) (after ≡ before) outcome)
