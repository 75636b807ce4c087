use Rattle.std.proofs.Common.{None, refl, arith}
use Rattle.access_tokens.specs.Keys.{bare}
use Rattle.access_tokens.proofs.WordLemmas.{words_exact}
use Rattle.access_tokens.proofs.keys.Keys.read.Goals as goal

pub returns-in-Some-clause-exact : goal.returns-in-Some-clause-exact
returns-in-Some-clause-exact c = (
  λ _. (
    record {
      current = record { number = 0; key = c.in-Some.key; range = omega arith };
      former = None;
      differ = λ entry e. cc e;
    },
    bare c.in-Some.ensures.value refl refl,
  ),
  λ _. refl,
)

pub returns-in-None-clause-exact : goal.returns-in-None-clause-exact
returns-in-None-clause-exact c =
    words_exact c.args.word.now c.numbered.result (λ told. cc (c.in-None.ensures.exact.1 told)) c.numbered.ensures.some c.numbered.ensures.none
