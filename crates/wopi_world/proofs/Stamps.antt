-- Entries are stamped by their number since the last restart, so stamps rise between restarts.
use Rattle.std.proofs.Common.{◌≡◌, ℕ, ◌+◌, ◌<◌, List, [], ◌∷◌, ◌++◌, length, refl, sym, ap, ◌∙◌, arith}
use Rattle.std.proofs.lemmas.List.{append-nil, length-append}
use Rattle.wopi_model.specs.Shard.{Tick, Step, entries}
use Rattle.wopi_model.specs.Shard as run
use Rattle.wopi_model.proofs.Histories.{entries-append}
use Rattle.wopi_world.specs.History.{Item, Ran, Restarted, RisesBetween, ran_from, last_run}

ran-push : (seen : List run.Item) (history : List Item) (item : run.Item) → ran_from seen (history ++ Ran item ∷ []) ≡ ran_from seen history ++ item ∷ []
ran-push seen [] item = refl
ran-push seen (Ran one ∷ history) item = ran-push (seen ++ one ∷ []) history item
ran-push seen (Restarted moment first ∷ history) item = ran-push [] history item

ran-restarted : (seen : List run.Item) (history : List Item) (moment first : ℕ) → ran_from seen (history ++ Restarted moment first ∷ []) ≡ []
ran-restarted seen [] moment first = refl
ran-restarted seen (Ran one ∷ history) moment first = ran-restarted (seen ++ one ∷ []) history moment first
ran-restarted seen (Restarted other number ∷ history) moment first = ran-restarted [] history moment first

-- how many entries stand after the last restart
abbrev pub count_since : List Item → ℕ
count_since history = length (entries (last_run history))

pub count-ticked : (history : List Item) (moment : ℕ) → count_since (history ++ Ran (Tick moment) ∷ []) ≡ count_since history
count-ticked history moment =
    ap (λ (l : List run.Item). length (entries l)) (ran-push [] history (Tick moment))
    ∙ ap length (entries-append (last_run history) (Tick moment ∷ []) ∙ append-nil (entries (last_run history)))

pub count-stepped : (history : List Item) (entry : run.Entry) → count_since (history ++ Ran (Step entry) ∷ []) ≡ count_since history + 1
count-stepped history entry =
    ap (λ (l : List run.Item). length (entries l)) (ran-push [] history (Step entry))
    ∙ ap length (entries-append (last_run history) (Step entry ∷ [])) ∙ length-append (entries (last_run history)) (entry ∷ [])

-- the last stamp since the last restart, or that number where there is none
abbrev stamp_since : ℕ → List Item → ℕ
stamp_since low [] = low
stamp_since low (Ran (Tick moment) ∷ items) = stamp_since low items
stamp_since low (Ran (Step entry) ∷ items) = stamp_since entry.stamp items
stamp_since low (Restarted moment first ∷ items) = stamp_since 0 items

-- what the item's stamp has to be after that one
abbrev IsAbove : ℕ → Item → Type 0
IsAbove low (Ran (Tick moment)) = Unit {0}
IsAbove low (Ran (Step entry)) = low < entry.stamp
IsAbove low (Restarted moment first) = Unit {0}

rises-push : (low : ℕ) (history : List Item) (item : Item) → RisesBetween low history → IsAbove (stamp_since low history) item → RisesBetween low (history ++ item ∷ [])
rises-push low [] (Ran (Tick moment)) h above = tt
rises-push low [] (Ran (Step entry)) h above = (above, tt)
rises-push low [] (Restarted moment first) h above = tt
rises-push low (Ran (Tick moment) ∷ history) item h above = rises-push low history item h above
rises-push low (Ran (Step entry) ∷ history) item h above = (h.0, rises-push entry.stamp history item h.1 above)
rises-push low (Restarted moment first ∷ history) item h above = rises-push 0 history item h above

stamp-push : (low : ℕ) (history : List Item) (item : Item) → stamp_since low (history ++ item ∷ []) ≡ stamp_since (stamp_since low history) (item ∷ [])
stamp-push low [] item = refl
stamp-push low (Ran (Tick moment) ∷ history) item = stamp-push low history item
stamp-push low (Ran (Step entry) ∷ history) item = stamp-push entry.stamp history item
stamp-push low (Restarted moment first ∷ history) item = stamp-push 0 history item

-- stamps rise between restarts, and the last one is the number of entries
pub record AreNumbered (history : List Item) : Type 0 where
  pub rises : RisesBetween 0 history
  last : stamp_since 0 history ≡ count_since history

-- an entry's stamp is the next number
abbrev pub IsNumbered : List Item → Item → Type 0
IsNumbered history (Ran (Tick moment)) = Unit {0}
IsNumbered history (Ran (Step entry)) = entry.stamp ≡ count_since history + 1
IsNumbered history (Restarted moment first) = Unit {0}

pub none_numbered : AreNumbered []
none_numbered = record { rises = tt; last = refl }

pub numbered-push : (history : List Item) (item : Item) → AreNumbered history → IsNumbered history item → AreNumbered (history ++ item ∷ [])
numbered-push history (Ran (Tick moment)) h is =
    record {
      rises = rises-push 0 history (Ran (Tick moment)) h.rises tt;
      last = stamp-push 0 history (Ran (Tick moment)) ∙ h.last ∙ sym (count-ticked history moment);
    }
numbered-push history (Ran (Step entry)) h is =
    let last = h.last in
    record {
      rises = rises-push 0 history (Ran (Step entry)) h.rises (omega (arith, last, is));
      last = stamp-push 0 history (Ran (Step entry)) ∙ is ∙ sym (count-stepped history entry);
    }
numbered-push history (Restarted moment first) h is =
    record {
      rises = rises-push 0 history (Restarted moment first) h.rises tt;
      last = stamp-push 0 history (Restarted moment first) ∙ sym (ap (λ (l : List run.Item). length (entries l)) (ran-restarted [] history moment first));
    }
