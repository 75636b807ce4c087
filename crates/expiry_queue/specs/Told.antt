-- What a story tells.
use Rattle.std.specs.Prelude.{List, [], ◌∷◌}
use Rattle.wopi_model.specs.declared.locks.Spent.{Spent}
use Rattle.expiry_queue.specs.declared.story.Part.{Part}
use Rattle.expiry_queue.specs.declared.story.Part.TheVariants.{Empty, More}

-- nothing, or one id and what was told before
abbrev pub told : Part → List Spent
told Empty = []
told (More last before) = last.value ∷ before.value.value
