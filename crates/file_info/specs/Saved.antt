-- What an editor is told of a file's last save, as JSON. (MS-WOPI, CheckFileInfo, has LastModifiedTime, and SHA256, the digest in base64 of RFC 4648; that PutFile answers with LastModifiedTime is of Collabora Online's documentation, WOPI extensions.)
use Rattle.std.specs.Prelude.{ℕ, List, codes}
use Rattle.base64.specs.Engines.{standard}
use Rattle.base64.specs.GeneralPurpose.{encode_of}
use Rattle.serde_json.specs.Data.{Data, Members, string, object, member, no_members, put}
use Rattle.serde_json.specs.Written.{compact_text}
use Rattle.moment_text.specs.Text.{moment_text}
use Rattle.file_info.specs.declared.save.Saved.{Saved}

-- a digest in base64
unfoldable pub digest_text : List ℕ → List ℕ
digest_text digest = encode_of standard digest

-- the two members beside others, each at its place
abbrev pub with_saved : Saved → Members → Members
with_saved saved others =
    put (codes "SHA256") (string (digest_text saved.digest)) (put (codes "LastModifiedTime") (string (moment_text saved.moment)) others)

-- the member of the answer to a save, with the text of its moment
abbrev pub save_json : List ℕ → Data
save_json moment = object (member (codes "LastModifiedTime") (string moment) no_members)

-- the body of that answer, written without spaces
abbrev pub save_text : ℕ → List ℕ
save_text moment = compact_text (save_json (moment_text moment))
