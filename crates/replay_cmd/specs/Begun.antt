-- What a shard of a schedule began with. (Own.)
use Rattle.std.specs.Prelude.{◌≡◌, List, [], map, unwrap_or}
use Rattle.wopi_model.specs.Begin.{Begin, new_life}
use Rattle.wopi_model.specs.Shard.{Opening}

-- the names and the bytes of its files
abbrev pub opening_in : Begin → Opening
opening_in begin = map (λ one. (one.0, unwrap_or one.1.contents [])) begin.files

-- it began a new life
abbrev pub IsNew : Begin → Type 0
IsNew begin = begin ≡ new_life (opening_in begin) begin.opened begin.first
