-- The members that an editor is told of a file, in their order.
use Rattle.std.proofs.Common.{◌≡◌, List, ℕ, refl}
use Rattle.std.specs.Prelude.{Option, None, Some}
use Rattle.serde_json.specs.Data.{Members, no_members, object}
use Rattle.file_info.specs.declared.info.Info.{Info}
use Rattle.host_server.specs.Editing.{Last, editor_json, file_members, supports_members, user_members, with_last, with_members, with_page}

pub told_in_order : (origin : Option (List ℕ)) (last : Option Last) (info : Info)
    → object (with_page origin (with_last last (with_members (user_members info) (with_members supports_members (with_members (file_members info) no_members)))))
    ≡ editor_json origin last info
told_in_order None None info = refl
told_in_order None (Some last) info = refl
told_in_order (Some origin) None info = refl
told_in_order (Some origin) (Some last) info = refl
