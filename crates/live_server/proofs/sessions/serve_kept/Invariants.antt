use Rattle.live_server.proofs.sessions.serve_kept.Given as goal

-- what was accepted, the history, and the two ledgers
abbrev pub ghosts-resume_and_serve : goal.ghosts-resume_and_serve
ghosts-resume_and_serve g a = record { accepted = a.checked; book = a.blanks.history; steps = a.blanks.steps.name; changes = a.blanks.changes.name }
