use Rattle.std.proofs.Common.{◌++◌, ◌∙◌, ap, drop, take}
use Rattle.wopi_http.proofs.BufferLemmas.{view_grown, keeps_grown, none_more}
use Rattle.wopi_http.proofs.buffer.Buffer.fill.Goals as goal

pub returns-in-Ok-clause-unread : goal.returns-in-Ok-clause-unread
returns-in-Ok-clause-unread g c =
    let room = c.make_room.new in
    let new = c.read_behind.new.space.items in
    let n = c.in-Ok.count in
    let more = take n (drop room.end new) in
    keeps_grown _ _ c.args.self.now _ more
    (view_grown room.space.items new room.at room.end n c.make_room.ensures.inside c.in-Ok.ensures.front
    ∙ ap (λ z. z ++ more) (c.make_room.ensures.same ∙ c.self.view_is))
    c.in-Ok.ensures.bytes

pub returns-in-Ok-clause-same : goal.returns-in-Ok-clause-same
returns-in-Ok-clause-same g c = λ none.
    let room = c.make_room.new in
    let new = c.read_behind.new.space.items in
    let n = c.in-Ok.count in
    let more = drop room.end new in
    none_more c.args.self.now _ more n
    (view_grown room.space.items new room.at room.end n c.make_room.ensures.inside c.in-Ok.ensures.front
    ∙ ap (λ z. z ++ take n more) (c.make_room.ensures.same ∙ c.self.view_is))
    none
