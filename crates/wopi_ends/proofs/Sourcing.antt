-- Each entry of a connection was made for one of its messages.
use Rattle.std.proofs.Common.{◌≡◌, ℕ, List, [], ◌∷◌, ◌++◌, length, Option, Some, refl, sym, ap, subst, ◌∙◌}
use Rattle.std.proofs.lemmas.List.{append_assoc, append-nil}
use Rattle.std.specs.List.{slice_get, AllByRecursion}
use Rattle.wopi_model.specs.Shard.{Entry}
use Rattle.host_server.specs.declared.desk.Desk.{Desk}
use Rattle.host_server.specs.declared.connection.ConnEnd.{ConnEnd}
use Rattle.host_server.specs.declared.connection.ConnEnd.TheVariants.{Done, ReadFault, WriteFault, Lost, Memory}
use Rattle.host_server.specs.Deeds.{Deed, Made, MadeFor, Blocked, Listed, made}
use Rattle.host_server.specs.Turns.{Turn, IsTurn, GoOn, bytes_of, parts_of}
use Rattle.host_server.specs.Connection.{End, closed, empty, refused, wanted, IsEnd, end_part, Next, line, reply, last, IsNext, next_part, Cut, Awaits, IsConnEnd}
use Rattle.wopi_ends.specs.Sources.{IsOfMessage}

pub all_append : {T : Type 0} (P : T → Type 0) (xs ys : List T) → AllByRecursion P xs → AllByRecursion P ys → AllByRecursion P (xs ++ ys)
all_append P [] ys h k = k
all_append P (x ∷ xs) ys h k = (h.0, all_append P xs ys h.1 k)

pub made-append : (xs ys : List Deed) → made (xs ++ ys) ≡ made xs ++ made ys
made-append [] ys = refl
made-append (Made entry ∷ xs) ys = ap (λ (l : List Entry). entry ∷ l) (made-append xs ys)
made-append (MadeFor one ∷ xs) ys = ap (λ (l : List Entry). one.entry ∷ l) (made-append xs ys)
made-append (Blocked call moment before later ∷ xs) ys = made-append xs ys
made-append (Listed listings ∷ xs) ys = made-append xs ys

get_new : {T : Type 0} (xs : List T) (x : T) (more : List T) → slice_get (xs ++ x ∷ more) (length xs) ≡ Some x
get_new [] x more = refl
get_new (y ∷ xs) x more = get_new xs x more

bytes_append : (xs ys : List Turn) → bytes_of (xs ++ ys) ≡ bytes_of xs ++ bytes_of ys
bytes_append [] ys = refl
bytes_append (t ∷ xs) ys = ap (λ (l : List ℕ). t.bytes ++ l) (bytes_append xs ys) ∙ sym (append_assoc t.bytes (bytes_of xs) (bytes_of ys))

parts_append : (xs ys : List Turn) → parts_of (xs ++ ys) ≡ parts_of xs ++ parts_of ys
parts_append [] ys = refl
parts_append (t ∷ xs) ys = ap (λ (l : List Deed). t.part ++ l) (parts_append xs ys) ∙ sym (append_assoc t.part (parts_of xs) (parts_of ys))

go_on_append : (desk : Desk) (xs ys : List Turn) → GoOn desk xs → GoOn desk ys → GoOn desk (xs ++ ys)
go_on_append desk [] ys h k = k
go_on_append desk (t ∷ xs) ys h k = (h.0, h.1, go_on_append desk xs ys h.2 k)

module _ (desk : Desk) (input : List ℕ) (all : List Deed) where
  abbrev Of : Entry → Type 0
  Of = IsOfMessage desk input all

  -- the entries of one message, from one on
  of_turn : (t : Turn) → IsTurn desk t → (earlier : List Turn) → GoOn desk earlier → (behind : List ℕ) → input ≡ bytes_of earlier ++ (t.bytes ++ behind)
      → (later : List Deed) → all ≡ parts_of earlier ++ (t.part ++ later) → (front rest : List Entry) → front ++ rest ≡ made t.part → AllByRecursion Of rest
  of_turn t turn earlier go_on behind is later are front [] e = tt
  of_turn t turn earlier go_on behind is later are front (entry ∷ rest) e = (
    record {
      earlier = earlier;
      go_on = go_on;
      t = t;
      turn = turn;
      place = length front;
      there = subst (λ (l : List Entry). slice_get l (length front) ≡ Some entry) e (get_new front entry rest);
      behind = behind;
      input_is = is;
      later = later;
      deeds_are = are;
    },
    of_turn t turn earlier go_on behind is later are (front ++ entry ∷ []) rest (append_assoc front (entry ∷ []) rest ∙ e),
  )

  of_turns : (turns earlier : List Turn) (rest : List ℕ) (later : List Deed) → GoOn desk earlier → GoOn desk turns → input ≡ bytes_of earlier ++ (bytes_of turns ++ rest)
      → all ≡ parts_of earlier ++ (parts_of turns ++ later) → AllByRecursion Of (made (parts_of turns))
  of_turns [] earlier rest later gone go_on is are = tt
  of_turns (t ∷ turns) earlier rest later gone go_on is are =
      let behind = bytes_of turns ++ rest in
      let at : input ≡ bytes_of earlier ++ (t.bytes ++ behind) = is ∙ ap (λ (l : List ℕ). bytes_of earlier ++ l) (append_assoc t.bytes (bytes_of turns) rest) in
      let one : bytes_of (t ∷ []) ≡ t.bytes = append-nil t.bytes in
      let with_it : bytes_of (earlier ++ t ∷ []) ≡ bytes_of earlier ++ t.bytes = bytes_append earlier (t ∷ []) ∙ ap (λ (l : List ℕ). bytes_of earlier ++ l) one in
      let next : input ≡ bytes_of (earlier ++ t ∷ []) ++ behind =
      at ∙ sym (append_assoc (bytes_of earlier) t.bytes behind) ∙ sym (ap (λ (l : List ℕ). l ++ behind) with_it) in
      let rest_of = parts_of turns ++ later in
      let done : all ≡ parts_of earlier ++ (t.part ++ rest_of) = are ∙ ap (λ (l : List Deed). parts_of earlier ++ l) (append_assoc t.part (parts_of turns) later) in
      let one_part : parts_of (t ∷ []) ≡ t.part = append-nil t.part in
      let with_part : parts_of (earlier ++ t ∷ []) ≡ parts_of earlier ++ t.part = parts_append earlier (t ∷ []) ∙ ap (λ (l : List Deed). parts_of earlier ++ l) one_part in
      let then_done : all ≡ parts_of (earlier ++ t ∷ []) ++ rest_of =
      done ∙ sym (append_assoc (parts_of earlier) t.part rest_of) ∙ sym (ap (λ (l : List Deed). l ++ rest_of) with_part) in
      let alone : GoOn desk (t ∷ []) = (go_on.0, go_on.1, tt) in
      subst (AllByRecursion Of) (sym (made-append t.part (parts_of turns)))
      (all_append Of (made t.part) (made (parts_of turns)) (of_turn t go_on.0 earlier gone behind at rest_of done [] (made t.part) refl)
      (of_turns turns (earlier ++ t ∷ []) rest later (go_on_append desk earlier (t ∷ []) gone alone) go_on.2 next then_done))

  -- the deeds end with those of the last message
  closes_with : (earlier : List Turn) (part : List Deed) → all ≡ parts_of earlier ++ part → all ≡ parts_of earlier ++ (part ++ [])
  closes_with earlier part are = are ∙ ap (λ (l : List Deed). parts_of earlier ++ l) (sym (append-nil part))

  of_end : (end : End) (count : ℕ) (earlier : List Turn) (rest : List ℕ) → GoOn desk earlier → input ≡ bytes_of earlier ++ rest → all ≡ parts_of earlier ++ end_part end
      → IsEnd desk count rest end → AllByRecursion Of (made (end_part end))
  of_end (closed t) count earlier rest gone is are h =
      of_turn t h.0 earlier gone h.2.0 (is ∙ ap (λ (l : List ℕ). bytes_of earlier ++ l) h.2.1) [] (closes_with earlier t.part are) [] (made t.part) refl
  of_end empty count earlier rest gone is are h = tt
  of_end (refused s hundred) count earlier rest gone is are h = tt
  of_end (wanted hundred) count earlier rest gone is are h = tt

  of_next : (next : Next) (count : ℕ) (earlier : List Turn) (rest : List ℕ) → GoOn desk earlier → input ≡ bytes_of earlier ++ rest → all ≡ parts_of earlier ++ next_part next
      → IsNext desk count rest next → AllByRecursion Of (made (next_part next))
  of_next (line hundred) count earlier rest gone is are h = tt
  of_next (reply t) count earlier rest gone is are h =
      of_turn t h.0 earlier gone h.2.0 (is ∙ ap (λ (l : List ℕ). bytes_of earlier ++ l) h.2.1) [] (closes_with earlier t.part are) [] (made t.part) refl
  of_next (last end) count earlier rest gone is are h = of_end end count earlier rest gone is are h

  joined : (deeds front back : List Deed) → deeds ≡ front ++ back → AllByRecursion Of (made front) → AllByRecursion Of (made back) → AllByRecursion Of (made deeds)
  joined deeds front back e h k =
      subst (AllByRecursion Of) (sym (ap made e ∙ made-append front back)) (all_append Of (made front) (made back) h k)

  of_cut : (moments output : List ℕ) → Cut desk input moments all output → AllByRecursion Of (made all)
  of_cut moments output cut =
      joined all (parts_of cut.turns) (next_part cut.next) cut.deeds_are (of_turns cut.turns [] cut.rest (next_part cut.next) tt cut.go_on cut.input_is cut.deeds_are)
      (of_next cut.next (length cut.turns) cut.turns cut.rest cut.go_on cut.input_is cut.deeds_are cut.is_next)

  of_read : (left : Option (List ℕ)) (moments output : List ℕ) → Awaits desk input left moments all output → AllByRecursion Of (made all)
  of_read left moments output a =
      subst (λ (d : List Deed). AllByRecursion Of (made d)) (sym a.deeds_are)
      (of_turns a.turns [] (a.tail ++ a.rest) [] tt a.go_on a.input_is (closes_with [] (parts_of a.turns) a.deeds_are))

  pub sources : (end : ConnEnd) (left : Option (List ℕ)) (moments output : List ℕ) → IsConnEnd desk end input left moments all output → AllByRecursion Of (made all)
  sources Done left moments output conn =
      let asked = conn.asked in
      joined all (parts_of conn.turns) (end_part conn.end) asked.deeds_are (of_turns conn.turns [] asked.rest (end_part conn.end) tt asked.go_on asked.input_is asked.deeds_are)
      (of_end conn.end (length conn.turns) conn.turns asked.rest asked.go_on asked.input_is asked.deeds_are asked.ends)
  sources ReadFault left moments output h = of_read left moments output h
  sources WriteFault left moments output h = of_cut moments output h
  sources Lost left moments output h = of_cut moments output h.0
  sources Memory left moments output h = subst (λ (d : List Deed). AllByRecursion Of (made d)) (sym h.2) tt
