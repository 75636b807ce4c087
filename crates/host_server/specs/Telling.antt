-- What is told of a call. (MS-WOPI, CheckFileInfo; that a save's answer tells its moment, and that one which knows an older file is 409 with that body, is of Collabora Online's documentation, WOPI extensions; what the body says where a shard is full, the name of the owner, that such a 409 tells of the lock and has a reason, and that the lock is looked at in the save's stead, are own.)
use Rattle.std.specs.Prelude.{ℕ, Bool, true, false, List, Option, None, Some, codes, unwrap_or, ◌==◌, if◌then◌else◌}
use Rattle.wopi_text.specs.declared.reason.Reason.TheVariants.{Changed}
use Rattle.wopi_model.specs.declared.token.Token.{Token}
use Rattle.wopi_model.specs.declared.calls.Act.{Act}
use Rattle.wopi_model.specs.declared.calls.Act.TheVariants as act
use Rattle.wopi_model.specs.declared.calls.Call.{Call}
use Rattle.wopi_model.specs.declared.calls.Ruling.{Ruling}
use Rattle.wopi_model.specs.Shard.{Entry}
use Rattle.wopi_headers.specs.declared.answer.Answer.{Answer}
use Rattle.wopi_headers.specs.declared.answer.BodyKind.TheVariants.{Json, Plain}
use Rattle.wopi_headers.specs.declared.known.Suite.{Suite}
use Rattle.wopi_headers.specs.Known.{changed_text}
use Rattle.wopi_headers.specs.Replies.{version_text}
use Rattle.wopi_acts.specs.Answers.{status_only, ruling_told}
use Rattle.file_info.specs.declared.info.Info.{Info}
use Rattle.file_info.specs.Saved.{save_text}
use Rattle.host_core.specs.declared.facts.Facts.{Facts}
use Rattle.host_core.specs.Facts.{is_put}
use Rattle.host_server.specs.Deeds.{EditorCall}
use Rattle.host_server.specs.Editing.{Last, info_body, last_of}

-- the answer where a shard takes no more
abbrev pub journal_full : Answer
journal_full = record (status_only 500) { kind = Plain; body = codes "journal full" }

-- what CheckFileInfo tells the holder of a token of the file of that name
abbrev pub info_of : List ℕ → Token → ℕ → ℕ → Info
info_of name token version size = record {
  name = name;
  owner = codes "owner";
  user = token.user;
  version = version_text version;
  size = size;
  can_write = token.write;
}

abbrev pub is_info : Act → Bool
is_info act.Info = true
is_info _ = false

-- The answer that tells CheckFileInfo's ruling, by whether the host serves editors, in which page, and what it tells of the file's last save: where it
-- is accepted the body has the version, and no field of the reply has it.
abbrev pub info_told_to : Bool → Option (List ℕ) → Option Last → List ℕ → Token → Ruling → Answer
info_told_to editor origin last name token ruling =
    if ruling.status == 200
    then record (ruling_told ruling) { version = None; kind = Json; body = info_body editor origin last (info_of name token (unwrap_or ruling.version 0) ruling.size) }
    else ruling_told ruling

-- the same of a host that serves no editors
abbrev pub info_told : List ℕ → Token → Ruling → Answer
info_told = info_told_to false None None

-- the answer that tells what a call was ruled
abbrev pub told_of : Call → Ruling → Answer
told_of call ruling = if is_info call.act then info_told call.name call.token ruling else ruling_told ruling

-- the answer that tells an entry
abbrev pub told : Entry → Answer
told entry = told_of entry.call entry.ruling

-- ---- what an editor is told

-- the answer to a save: where it was accepted, its body tells when that was
abbrev pub save_told : Option Facts → Ruling → Answer
save_told None ruling = ruling_told ruling
save_told (Some facts) ruling = if ruling.status == 200 then record (ruling_told ruling) { kind = Json; body = save_text facts.saved } else ruling_told ruling

-- The answer to a save that came too late, by what the look at the file's lock was ruled. Where that was accepted, it tells of the lock that stands,
-- and that the file was changed; else it is the look's own.
abbrev pub late_told : Suite → Ruling → Answer
late_told suite ruling =
    if ruling.status == 200
    then record (status_only 409) { lock = ruling.lock; reason = Some Changed; kind = Json; body = changed_text suite }
    else ruling_told ruling

-- The answer to a call of an editor in a page of that origin, which goes by that name: by whether the call came too late, and else by what it is.
abbrev pub told_by : Option (List ℕ) → Suite → Bool → Bool → Bool → List ℕ → Token → Option Facts → Ruling → Answer
told_by origin suite late info save name token facts ruling =
    if late then late_told suite ruling
    else if info then info_told_to true origin (last_of facts) name token ruling
    else if save then save_told facts ruling
    else ruling_told ruling

abbrev pub told_for : Option (List ℕ) → Suite → EditorCall → Answer
told_for origin suite one =
    told_by origin suite one.late (is_info one.call.act) (is_put one.call.act) one.call.name one.call.token one.facts one.entry.ruling
