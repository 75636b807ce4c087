-- From the messages so far to a whole connection.
use Rattle.std.proofs.Common.{true, ◌≡◌, ◌≢◌, ◌<◌, ◌+◌, ℕ, false, List, [], ◌∷◌, ◌++◌, Option, None, Some, refl, sym, ap, ◌∙◌, subst, arith, length-append, append-nil}
use Rattle.std.specs.Io.KnownBytes.{Consumes, Appends, prepend_known}
use Rattle.std.proofs.KnownBytes.{Appends-trans, Appends-nil, Consumes-trans}
use Rattle.outside.specs.Clock.{GivesAll}
use Rattle.outside.specs.Stream.{Are}
use Rattle.wopi_http.specs.declared.message.Request.{Request}
use Rattle.wopi_http.specs.Closing.{closes}
use Rattle.wopi_http.specs.Answers.{hundred_text}
use Rattle.wopi_http.specs.Cuts.{IsPrompt}
use Rattle.host_server.specs.declared.connection.ConnEnd.{ConnEnd}
use Rattle.host_server.specs.declared.connection.ConnEnd.TheVariants.{Done, ReadFault, WriteFault, Lost, Memory}
use Rattle.host_server.specs.declared.connection.Progress.TheVariants.{Over}
use Rattle.host_core.specs.Caller.{Sight, Extends}
use Rattle.host_server.specs.declared.desk.Desk.{Desk}
use Rattle.wopi_model.specs.Shard.{Entry}
use Rattle.host_server.specs.Deeds.{Deed, Does, made}
use Rattle.host_server.specs.Keeping.{AreTold}
use Rattle.host_server.proofs.DeedLemmas.{Does-nil, Does-join}
use Rattle.host_server.specs.Turns.{bytes_of, moments_of, parts_of, texts_of, turn_text}
use Rattle.host_server.specs.Connection.{message_limit, is_last, IsEnd, IsNext, Serves, end_text, end_moments, end_part, is_reply, next_line, next_moments, next_part}
use Rattle.host_server.specs.Steps.{StepsOn, StepsOver, Breaks, Steps, Running}
use Rattle.host_server.proofs.SequenceLemmas.{are_from, GivesAll-trans, GivesAll-nil, flat_map-one, map-one, GoOn-one}

-- what is left of the link, and so what it held
parts_of_input : (a b : Option (List ℕ)) (bytes : List ℕ) → Consumes a b bytes → (rest : List ℕ) × Are b rest × Are a (bytes ++ rest)
parts_of_input None None bytes reads = ([], tt, tt)
parts_of_input None (Some y) bytes reads = (y, refl, tt)
parts_of_input (Some x) None bytes reads = absurd reads
parts_of_input (Some x) (Some y) bytes reads = (y, refl, reads)

-- a message that isn't the last doesn't close, and has room behind it
pub stays_open : (count : ℕ) (q : Request) → is_last count q ≡ false → closes q ≡ false
stays_open count q stays = grind (arith, stays)

pub has_room : (count : ℕ) (q : Request) → is_last count q ≡ false → count < message_limit → count + 1 < message_limit
has_room count q stays few = grind (arith, stays, few)

-- all that was made may be told
told_all : (always : Sight → Type 0) (sight sight' : Sight) (deeds : List Deed) → Does always sight sight' deeds → (AreTold sight → AreTold sight')
    → AreTold sight → Extends (sight.own ++ made deeds) sight'.told
told_all always sight sight' deeds does keeps told = ([], keeps told ∙ does.own ∙ sym (append-nil (sight.own ++ made deeds)))

module _ (desk : Desk) (always : Sight → Type 0) (left clock : Option (List ℕ)) (sight : Sight) (held : Option (List ℕ)) where
  -- before the first message
  pub runs_nothing : (buffer : List ℕ) → buffer ≡ [] → Running desk always 0 left (prepend_known buffer left) clock clock sight sight held held
  runs_nothing buffer empty = record {
    turns = [];
    go_on = tt;
    count_is = refl;
    reads = subst (λ (b : List ℕ). Consumes left (prepend_known b left) []) (sym empty) (nothing left);
    times = GivesAll-nil clock;
    makes = Does-nil always sight;
    writes = Appends-nil held;
  }
    where
      nothing : (a : Option (List ℕ)) → Consumes a (prepend_known [] a) []
      nothing None = tt
      nothing (Some bytes) = refl

  module _ (count : ℕ) (left' clock' : Option (List ℕ)) (sight' : Sight) (held' : Option (List ℕ))
      (running : Running desk always count left left' clock clock' sight sight' held held') where
    pub runs_on : (left'' clock'' : Option (List ℕ)) (sight'' : Sight) (held'' : Option (List ℕ))
        → StepsOn desk always count left' left'' clock' clock'' sight' sight'' held' held''
        → Running desk always (count + 1) left left'' clock clock'' sight sight'' held held''
    runs_on left'' clock'' sight'' held'' step =
        let turns = running.turns in
        let t = step.turn in
        record {
          turns = turns ++ t ∷ [];
          go_on = GoOn-one desk turns t running.go_on step.is_turn (stays_open count t.request step.stays);
          count_is = length-append turns (t ∷ []) ∙ ap (λ n. n + 1) running.count_is;
          reads = subst (Consumes left left'') (sym (flat_map-one (λ x. x.bytes) turns t)) (Consumes-trans left left' left'' _ _ running.reads step.reads);
          times = subst (GivesAll clock clock'') (sym (map-one (λ x. x.moment) turns t)) (GivesAll-trans clock clock' clock'' _ _ running.times step.times);
          makes = subst (Does always sight sight'') (sym (flat_map-one (λ x. x.part) turns t))
              (Does-join always sight sight' sight'' (parts_of turns) t.part running.makes step.makes);
          writes = subst (Appends held held'') (sym (flat_map-one (λ x. turn_text x false) turns t)) (Appends-trans held held' held'' _ _ running.writes step.writes);
        }

    pub serves_over : (source clock'' : Option (List ℕ)) (sight'' : Sight) (held'' : Option (List ℕ)) → count < message_limit
        → StepsOver desk always count left' clock' clock'' sight' sight'' held' held'' → (AreTold sight → AreTold sight'')
        → Serves desk always Done left source clock clock'' sight sight'' held held''
    serves_over source clock'' sight'' held'' few step keeps =
        let turns = running.turns in
        record {
          input = bytes_of turns ++ step.rest;
          moments = moments_of turns ++ end_moments step.end;
          deeds = parts_of turns ++ end_part step.end;
          output = texts_of turns ++ end_text step.end;
          reads = are_from left left' (bytes_of turns) step.rest running.reads step.reads;
          times = GivesAll-trans clock clock' clock'' _ _ running.times step.times;
          makes = Does-join always sight sight' sight'' (parts_of turns) (end_part step.end) running.makes step.makes;
          writes = Appends-trans held held' held'' _ _ running.writes step.writes;
          says = record {
            turns = turns;
            end = step.end;
            asked = record {
              rest = step.rest;
              go_on = running.go_on;
              few = subst (λ n. n < message_limit) (sym running.count_is) few;
              input_is = refl;
              ends = subst (λ n. IsEnd desk n step.rest step.end) (sym running.count_is) step.ends;
              moments_are = refl;
              deeds_are = refl;
            };
            output_is = refl;
          };
          sure = parts_of turns ++ end_part step.end;
          are_sure = refl;
          told = told_all always sight sight'' (parts_of turns ++ end_part step.end)
              (Does-join always sight sight' sight'' (parts_of turns) (end_part step.end) running.makes step.makes) keeps;
        }

    pub serves_broken : (source clock'' : Option (List ℕ)) (sight'' : Sight) (held'' : Option (List ℕ)) → count < message_limit
        → Breaks desk always count left' clock' clock'' sight' sight'' held' held'' → (AreTold sight → AreTold sight'')
        → Serves desk always WriteFault left source clock clock'' sight sight'' held held''
    serves_broken source clock'' sight'' held'' few step keeps =
        let turns = running.turns in
        record {
          input = bytes_of turns ++ step.rest;
          moments = moments_of turns ++ next_moments step.next;
          deeds = parts_of turns ++ next_part step.next;
          output = texts_of turns ++ step.front;
          reads = are_from left left' (bytes_of turns) step.rest running.reads step.reads;
          times = GivesAll-trans clock clock' clock'' _ _ running.times step.times;
          makes = Does-join always sight sight' sight'' (parts_of turns) (next_part step.next) running.makes step.makes;
          writes = Appends-trans held held' held'' _ _ running.writes step.writes;
          says = record {
            turns = turns;
            next = step.next;
            rest = step.rest;
            go_on = running.go_on;
            few = subst (λ n. n < message_limit) (sym running.count_is) few;
            input_is = refl;
            is_next = subst (λ n. IsNext desk n step.rest step.next) (sym running.count_is) step.is_next;
            moments_are = refl;
            deeds_are = refl;
            front = step.front;
            back = step.back;
            parts = step.parts;
            output_is = refl;
          };
          sure = parts_of turns ++ next_part step.next;
          are_sure = refl;
          told = told_all always sight sight'' (parts_of turns ++ next_part step.next)
              (Does-join always sight sight' sight'' (parts_of turns) (next_part step.next) running.makes step.makes) keeps;
        }

    -- a store was lost behind these messages, all of which may be told
    pub serves_lost : (source clock'' : Option (List ℕ)) (sight'' : Sight) (held'' : Option (List ℕ)) → count < message_limit
        → (breaks : Breaks desk always count left' clock' clock'' sight' sight'' held' held'') × (breaks.front ≡ next_line breaks.next) × (is_reply breaks.next ≡ true)
        → (AreTold sight → AreTold sight') → Extends sight'.told sight''.told
        → Serves desk always Lost left source clock clock'' sight sight'' held held''
    serves_lost source clock'' sight'' held'' few (step, front, is) keeps extends =
        let turns = running.turns in
        record {
          input = bytes_of turns ++ step.rest;
          moments = moments_of turns ++ next_moments step.next;
          deeds = parts_of turns ++ next_part step.next;
          output = texts_of turns ++ step.front;
          reads = are_from left left' (bytes_of turns) step.rest running.reads step.reads;
          times = GivesAll-trans clock clock' clock'' _ _ running.times step.times;
          makes = Does-join always sight sight' sight'' (parts_of turns) (next_part step.next) running.makes step.makes;
          writes = Appends-trans held held' held'' _ _ running.writes step.writes;
          says = (
            record {
              turns = turns;
              next = step.next;
              rest = step.rest;
              go_on = running.go_on;
              few = subst (λ n. n < message_limit) (sym running.count_is) few;
              input_is = refl;
              is_next = subst (λ n. IsNext desk n step.rest step.next) (sym running.count_is) step.is_next;
              moments_are = refl;
              deeds_are = refl;
              front = step.front;
              back = step.back;
              parts = step.parts;
              output_is = refl;
            },
            front,
            is,
          );
          sure = parts_of turns;
          are_sure = refl;
          told = λ told. (extends.0, extends.1 ∙ ap (λ (l : List Entry). l ++ extends.0) (keeps told ∙ running.makes.own));
        }

    -- a read failed behind these messages
    pub serves_unread : (source clock'' : Option (List ℕ)) (sight'' : Sight) (held'' : Option (List ℕ)) → count < message_limit
        → GivesAll clock' clock'' [] → Does always sight' sight'' [] → IsPrompt left' source held' held'' → (AreTold sight → AreTold sight'')
        → Serves desk always ReadFault left source clock clock'' sight sight'' held held''
    serves_unread source clock'' sight'' held'' few times makes prompt keeps =
        let turns = running.turns in
        let (rest, unread, are) = parts_of_input left' source prompt.bytes prompt.read in
        record {
          input = bytes_of turns ++ (prompt.bytes ++ rest);
          moments = moments_of turns;
          deeds = parts_of turns;
          output = texts_of turns ++ hundred_text prompt.hundred;
          reads = are_from left left' (bytes_of turns) (prompt.bytes ++ rest) running.reads are;
          times = subst (GivesAll clock clock'') (append-nil (moments_of turns)) (GivesAll-trans clock clock' clock'' _ _ running.times times);
          makes = subst (Does always sight sight'') (append-nil (parts_of turns)) (Does-join always sight sight' sight'' (parts_of turns) [] running.makes makes);
          writes = Appends-trans held held' held'' _ _ running.writes prompt.written;
          says = record {
            turns = turns;
            tail = prompt.bytes;
            rest = rest;
            hundred = prompt.hundred;
            go_on = running.go_on;
            few = subst (λ n. n < message_limit) (sym running.count_is) few;
            input_is = refl;
            unread = unread;
            owes_nothing = prompt.owes_nothing;
            asks = prompt.asks;
            moments_are = refl;
            deeds_are = refl;
            output_is = refl;
          };
          sure = parts_of turns;
          are_sure = refl;
          told = told_all always sight sight'' (parts_of turns)
              (subst (Does always sight sight'') (append-nil (parts_of turns)) (Does-join always sight sight' sight'' (parts_of turns) [] running.makes makes)) keeps;
        }

    pub serves_from : (end : ConnEnd) (left'' source clock'' : Option (List ℕ)) (sight'' : Sight) (held'' : Option (List ℕ)) → count < message_limit
        → Steps desk always count left' left'' clock' clock'' sight' sight'' held' held'' (Over end)
        → (Over end ≡ Over ReadFault → IsPrompt left' source held' held'')
        → (AreTold sight → AreTold sight') → (Over end ≢ Over Lost → AreTold sight' → AreTold sight'') → Extends sight'.told sight''.told
        → Serves desk always end left source clock clock'' sight sight'' held held''
    serves_from Done left'' source clock'' sight'' held'' few step prompt keeps sure extends =
        serves_over source clock'' sight'' held'' few step (λ told. sure (λ e. cc) (keeps told))
    serves_from ReadFault left'' source clock'' sight'' held'' few step prompt keeps sure extends =
        serves_unread source clock'' sight'' held'' few step.0 step.1 (prompt refl) (λ told. sure (λ e. cc) (keeps told))
    serves_from WriteFault left'' source clock'' sight'' held'' few step prompt keeps sure extends =
        serves_broken source clock'' sight'' held'' few step (λ told. sure (λ e. cc) (keeps told))
    serves_from Lost left'' source clock'' sight'' held'' few step prompt keeps sure extends = serves_lost source clock'' sight'' held'' few step keeps extends
    serves_from Memory left'' source clock'' sight'' held'' few step prompt keeps sure extends = absurd step

-- no memory to begin
pub serves_nothing : (desk : Desk) (always : Sight → Type 0) (left clock : Option (List ℕ)) (sight : Sight) (held : Option (List ℕ))
    → Serves desk always Memory left left clock clock sight sight held held
serves_nothing desk always left clock sight held =
    let (input, are) = some_input left in
    record {
      input = input;
      moments = [];
      deeds = [];
      output = [];
      reads = are;
      times = GivesAll-nil clock;
      makes = Does-nil always sight;
      writes = Appends-nil held;
      says = (are, refl, refl, refl);
      sure = [];
      are_sure = refl;
      told = λ told. ([], told ∙ sym (append-nil sight.own) ∙ sym (append-nil (sight.own ++ [])));
    }
  where
    some_input : (a : Option (List ℕ)) → (input : List ℕ) × Are a input
    some_input None = ([], tt)
    some_input (Some x) = (x, refl)
