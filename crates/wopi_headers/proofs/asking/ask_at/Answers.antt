use Rattle.std.proofs.Common.{◌≡◌, inl, inr, ℕ, List, Bool, Option, None, Some, Result, Ok, Err, rules, ◌∙◌, sym, ap, refl, subst}
use Rattle.wopi_text.specs.FileName.{IsFileName}
use Rattle.wopi_text.specs.Ids.{id_of}
use Rattle.wopi_http.specs.declared.message.Field.{Field}
use Rattle.wopi_http.specs.declared.message.Request.{Request}
use Rattle.wopi_headers.specs.declared.ask.Ask.{Ask}
use Rattle.wopi_headers.specs.declared.ask.AskFault.{AskFault}
use Rattle.wopi_headers.specs.declared.ask.AskFault.TheVariants.{Refused, Memory}
use Rattle.wopi_headers.specs.declared.ask.Op.{Op}
use Rattle.wopi_headers.specs.declared.row.Row.{Row}
use Rattle.wopi_headers.specs.Targets.{path_of, query_of, token_in}
use Rattle.wopi_headers.specs.Paths.{IsFilePath, IsIdIn}
use Rattle.wopi_headers.specs.Rows.{row_asked}
use Rattle.wopi_headers.specs.Operations.{Says, HasOneOverride, IsRefusal, IsAnswerIn}
use Rattle.wopi_headers.specs.Operations.IsRefusal.{no_row, no_reading}
use Rattle.wopi_headers.specs.RowReads.{IsRead, IsRowIn}
use Rattle.wopi_headers.proofs.OneTarget.{one_target}
use Rattle.wopi_headers.proofs.Queries.{token_is_of}
use Rattle.wopi_headers.proofs.asking.ask_at.Goals as goal

-- what was found of a request, in the slices that were looked at
module _ (q : Request) (path query : List ℕ) (fields : List Field) (id name : List ℕ) (contents : Bool)
    (path_is : path ≡ path_of q.target) (query_is : query ≡ query_of q.target) (fields_are : fields ≡ q.fields)
    (in_path : IsIdIn path id contents) (form : IsFileName name) (id_is : id ≡ id_of name) where
  at_path : IsFilePath (path_of q.target) name contents
  at_path =
      let P : List ℕ → Type 0 = λ p. IsFilePath p name contents in
      subst P path_is ((in_path name contents).1 ((form, id_is), refl))

  fields_is : row_asked q.method contents q.fields ≡ row_asked q.method contents fields
  fields_is = ap (row_asked q.method contents) (sym fields_are)

  unread : (row : Row) (s : ℕ) → s ≡ 400 → row_asked q.method contents fields ≡ Some row → ((op : Op) → HasOneOverride row fields → ¬ (Says row fields op)) → IsRefusal q s
  unread row s is some none =
      let P : List Field → Type 0 = λ fs. (op : Op) → HasOneOverride row fs → ¬ (Says row fs op) in
      no_reading is name contents row at_path (fields_is ∙ some) (subst P fields_are none)

  refused : (s : ℕ) → IsRowIn q.method contents fields (Err s) → IsRefusal q s
  refused s (inl h) = no_row h.0 name contents at_path (fields_is ∙ h.1)
  refused s (inr h) = unread h.1.0 s h.0 h.1.1 (λ op once says. h.1.2 once)

  read : (row : Row) (token : List ℕ) → row_asked q.method contents fields ≡ Some row → HasOneOverride row fields → token ≡ token_in query
      → (r : Result (Unit {0}) AskFault) (p : Option Ask) → IsRead row name token fields r p → IsAnswerIn q r p
  read row token some once token_is (Ok done) None h = absurd h
  read row token some once token_is (Ok done) (Some a) h =
      let P : List Field → Type 0 = λ fs. HasOneOverride row fs in
      let S : List Field → Type 0 = λ fs. Says row fs a.op in
      let F : List ℕ → Type 0 = λ n. IsFilePath (path_of q.target) n contents in
      record {
        contents = contents;
        row = row;
        path = subst F (sym h.0) at_path;
        row_is = fields_is ∙ some;
        once = subst P fields_are once;
        says = subst S fields_are h.2;
        token_is = h.1 ∙ token_is_of query q.target token query_is token_is;
      }
  read row token some once token_is (Err (Refused s)) p h = unread row s h.0 some (λ op one says. h.1 op says)
  read row token some once token_is (Err Memory) p h = tt

  -- by the reader of the row that was found
  answered : (row kind : Row) (token : List ℕ) → row ≡ kind → IsRowIn q.method contents fields (Ok row) → token ≡ token_in query
      → (r : Result (Unit {0}) AskFault) (p : Option Ask) → IsRead kind name token fields r p → IsAnswerIn q r p
  answered row kind token is found token_is r p h =
      let R : Row → Type 0 = λ k. IsRead k name token fields r p in
      read row token found.0 found.1 token_is r p (subst R (sym is) h)

pub returns-in-Err-clause-read : goal.returns-in-Err-clause-read
returns-in-Err-clause-read c =
    let form : IsFileName c.in-Ok.file = search rules in
    refused c.args.request.now _ _ _ _ _ _ c.requires.path c.requires.query c.as_slice-fields.ensures c.in-Some.ensures
    form c.in-Ok.ensures.value c.in-Err.status c.in-Err.ensures

pub ask_copy-requires : goal.ask_copy-requires
ask_copy-requires c = one_target _ _ c.as_slice-fields.result.now c.in-Ok-row_in.row c.in-Ok-row_in.ensures.0 c.in-PutRelativeFile.is

pub returns-in-GetFile-clause-read : goal.returns-in-GetFile-clause-read
returns-in-GetFile-clause-read c =
    let form : IsFileName c.in-Ok.file = search rules in
    answered c.args.request.now _ _ _ _ _ _ c.requires.path c.requires.query c.as_slice-fields.ensures c.in-Some.ensures
    form c.in-Ok.ensures.value _ _ _ c.in-GetFile.is c.in-Ok-row_in.ensures c.in_ok-token.ensures c.ask_get.result c.ask_get.new.place c.ask_get.ensures.read

pub returns-in-PutFile-clause-read : goal.returns-in-PutFile-clause-read
returns-in-PutFile-clause-read c =
    let form : IsFileName c.in-Ok.file = search rules in
    answered c.args.request.now _ _ _ _ _ _ c.requires.path c.requires.query c.as_slice-fields.ensures c.in-Some.ensures
    form c.in-Ok.ensures.value _ _ _ c.in-PutFile.is c.in-Ok-row_in.ensures c.in_ok-token.ensures c.ask_put.result c.ask_put.new.place c.ask_put.ensures.read

pub returns-in-Lock-clause-read : goal.returns-in-Lock-clause-read
returns-in-Lock-clause-read c =
    let form : IsFileName c.in-Ok.file = search rules in
    answered c.args.request.now _ _ _ _ _ _ c.requires.path c.requires.query c.as_slice-fields.ensures c.in-Some.ensures
    form c.in-Ok.ensures.value _ _ _ c.in-Lock.is c.in-Ok-row_in.ensures c.in_ok-token.ensures c.ask_lock.result c.ask_lock.new.place c.ask_lock.ensures.read

pub returns-in-RefreshLock-clause-read : goal.returns-in-RefreshLock-clause-read
returns-in-RefreshLock-clause-read c =
    let form : IsFileName c.in-Ok.file = search rules in
    answered c.args.request.now _ _ _ _ _ _ c.requires.path c.requires.query c.as_slice-fields.ensures c.in-Some.ensures
    form c.in-Ok.ensures.value _ _ _ c.in-RefreshLock.is c.in-Ok-row_in.ensures c.in_ok-token.ensures c.ask_refresh.result c.ask_refresh.new.place c.ask_refresh.ensures.read

pub returns-in-Unlock-clause-read : goal.returns-in-Unlock-clause-read
returns-in-Unlock-clause-read c =
    let form : IsFileName c.in-Ok.file = search rules in
    answered c.args.request.now _ _ _ _ _ _ c.requires.path c.requires.query c.as_slice-fields.ensures c.in-Some.ensures
    form c.in-Ok.ensures.value _ _ _ c.in-Unlock.is c.in-Ok-row_in.ensures c.in_ok-token.ensures c.ask_unlock.result c.ask_unlock.new.place c.ask_unlock.ensures.read

pub returns-in-PutRelativeFile-clause-read : goal.returns-in-PutRelativeFile-clause-read
returns-in-PutRelativeFile-clause-read c =
    let form : IsFileName c.in-Ok.file = search rules in
    answered c.args.request.now _ _ _ _ _ _ c.requires.path c.requires.query c.as_slice-fields.ensures c.in-Some.ensures
    form c.in-Ok.ensures.value _ _ _ c.in-PutRelativeFile.is c.in-Ok-row_in.ensures c.in_ok-token.ensures c.ask_copy.result c.ask_copy.new.place c.ask_copy.ensures.read

pub returns-in-CheckFileInfo-clause-read : goal.returns-in-CheckFileInfo-clause-read
returns-in-CheckFileInfo-clause-read c =
    let form : IsFileName c.in-Ok.file = search rules in
    answered c.args.request.now _ _ _ _ _ _ c.requires.path c.requires.query c.as_slice-fields.ensures c.in-Some.ensures
    form c.in-Ok.ensures.value _ _ _ c.in-CheckFileInfo.is c.in-Ok-row_in.ensures c.in_ok-token.ensures c.ask_info.result c.ask_info.new.place
    (c.ask_info.ensures.read c.as_slice-fields.result.now)

pub returns-in-GetLock-clause-read : goal.returns-in-GetLock-clause-read
returns-in-GetLock-clause-read c =
    let form : IsFileName c.in-Ok.file = search rules in
    answered c.args.request.now _ _ _ _ _ _ c.requires.path c.requires.query c.as_slice-fields.ensures c.in-Some.ensures
    form c.in-Ok.ensures.value _ _ _ c.in-GetLock.is c.in-Ok-row_in.ensures c.in_ok-token.ensures c.ask_held.result c.ask_held.new.place
    (c.ask_held.ensures.read c.as_slice-fields.result.now)

pub returns-in-DeleteFile-clause-read : goal.returns-in-DeleteFile-clause-read
returns-in-DeleteFile-clause-read c =
    let form : IsFileName c.in-Ok.file = search rules in
    answered c.args.request.now _ _ _ _ _ _ c.requires.path c.requires.query c.as_slice-fields.ensures c.in-Some.ensures
    form c.in-Ok.ensures.value _ _ _ c.in-DeleteFile.is c.in-Ok-row_in.ensures c.in_ok-token.ensures c.ask_delete.result c.ask_delete.new.place
    (c.ask_delete.ensures.read c.as_slice-fields.result.now)
