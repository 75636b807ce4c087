-- What is told of the files of a container, as JSON (RFC 8259). (MS-WOPI, CheckContainerInfo and EnumerateChildren, have the members; which of them stand, in the order of their names, and that an address carries a token for its file are own.)
use Rattle.std.specs.Prelude.{ℕ, ◌↔◌, List, [], ◌∷◌, codes, flat_map}
use Rattle.std.specs.List.{Contains}
use Rattle.std.specs.List.Sorted.{IsStrictlySortedBy}
use Rattle.std.specs.Ordering.{nat_cmp}
use Rattle.std.specs.Cmp.Lexicographic.{slice_cmp}
use Rattle.serde_json.specs.Data.{Data, number, unsigned, string, array, object, Items, no_items, item, member, no_members}
use Rattle.serde_json.specs.Written.{compact_text}
use Rattle.wopi_model.specs.declared.token.Token.{Token}
use Rattle.wopi_headers.specs.Replies.{version_text}
use Rattle.access_tokens.specs.Addresses.{address_with}
use Rattle.access_tokens.specs.declared.keys.Keys.{Keys}
use Rattle.host_core.specs.Children.{child_names}
use Rattle.host_core.specs.declared.children.Child.{Child}
use Rattle.host_core.specs.declared.listing.Listing.{Listing}
use Rattle.containers.specs.declared.token.ContainerToken.{ContainerToken}

-- what CheckContainerInfo's body tells: the container's name
unfoldable pub container_info : List ℕ
container_info = compact_text (object (member (codes "Name") (string (codes "root")) no_members))

-- a token for a file, in the name of who lists the container, issued at that moment
abbrev pub child_token : ContainerToken → ℕ → Child → Token
child_token token moment child = record {
  user = token.user;
  file = child.name;
  write = token.write;
  serial = token.serial;
  issued = moment;
  expires = token.expires;
}

-- a file's name, its size, its address with such a token, and its version
abbrev pub child_json : Keys → List ℕ → ContainerToken → ℕ → Child → Data
child_json keys base token moment child =
    object
    (member (codes "Name") (string child.name)
    (member (codes "Size") (number (unsigned child.size))
    (member (codes "Url") (string (address_with base keys (child_token token moment child)))
    (member (codes "Version") (string (version_text child.version))
    no_members))))

abbrev pub children_json : Keys → List ℕ → ContainerToken → ℕ → List Child → Items
children_json keys base token moment [] = no_items
children_json keys base token moment (child ∷ children) =
    item (child_json keys base token moment child) (children_json keys base token moment children)

-- no containers, and these files
abbrev pub listing_json : Keys → List ℕ → ContainerToken → ℕ → List Child → Data
listing_json keys base token moment children =
    object
    (member (codes "ChildContainers") (array no_items)
    (member (codes "ChildFiles") (array (children_json keys base token moment children))
    no_members))

-- the body of EnumerateChildren's answer, written without spaces
unfoldable pub listing_text : Keys → List ℕ → ContainerToken → ℕ → List Child → List ℕ
listing_text keys base token moment children = compact_text (listing_json keys base token moment children)

abbrev pub all_children : List Listing → List Child
all_children listings = flat_map (λ listing. listing.children) listings

-- the files of all listings, each once, in the order of their names' bytes
pub record AreMerged (listings : List Listing) (children : List Child) : Type 0 where
  pub ordered : IsStrictlySortedBy (slice_cmp nat_cmp) (child_names children)
  pub exact : (child : Child) → Contains children child ↔ Contains (all_children listings) child
