use Rattle.wopi_program.proofs.ServeRows.{ask_exact, ask_none}
use Rattle.wopi_program.proofs.serve_words.serve_ask.Goals as goal

pub returns-in-Some : goal.returns-in-Some
returns-in-Some c = ask_exact _ _ _ _ c.in-Some.ensures.some

pub returns-in-None : goal.returns-in-None
returns-in-None c = ask_none _ c.in-None.ensures.none
