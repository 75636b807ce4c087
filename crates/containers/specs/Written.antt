-- The words of the JSON that lists files, in their order.
use Rattle.std.specs.Prelude.{ℕ, List, [], ◌∷◌, ◌++◌, codes, flat_map, decimal}
use Rattle.json.specs.Token.{Token, begin_object, end_object, begin_array, end_array, key, string, number}
use Rattle.wopi_headers.specs.Replies.{version_text}
use Rattle.access_tokens.specs.Addresses.{address_with}
use Rattle.access_tokens.specs.declared.keys.Keys.{Keys}
use Rattle.host_core.specs.declared.children.Child.{Child}
use Rattle.containers.specs.Listed.{child_token}
use Rattle.containers.specs.declared.token.ContainerToken.{ContainerToken}

abbrev pub child_tokens : Keys → List ℕ → ContainerToken → ℕ → Child → List Token
child_tokens keys base token moment child =
    begin_object ∷ key (codes "Name") ∷ string child.name ∷ key (codes "Size") ∷ number (decimal child.size)
    ∷ key (codes "Url") ∷ string (address_with base keys (child_token token moment child))
    ∷ key (codes "Version") ∷ string (version_text child.version) ∷ end_object ∷ []

-- what stands before the files
abbrev pub listing_front : List Token
listing_front = begin_object ∷ key (codes "ChildContainers") ∷ begin_array ∷ end_array ∷ key (codes "ChildFiles") ∷ begin_array ∷ []

abbrev pub listing_tokens : Keys → List ℕ → ContainerToken → ℕ → List Child → List Token
listing_tokens keys base token moment children =
    listing_front ++ (flat_map (child_tokens keys base token moment) children ++ end_array ∷ end_object ∷ [])
