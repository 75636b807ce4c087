-- What the words of a command are called where one is told of. (Own.)
use Rattle.std.specs.Prelude.{ℕ, List, codes}
use Rattle.command_words.specs.declared.lines.Next.{Next}
use Rattle.command_words.specs.declared.lines.Next.TheVariants as next
use Rattle.command_words.specs.declared.rules.Rule.{Rule}
use Rattle.command_words.specs.declared.rules.Rule.TheVariants as rule

unfoldable pub name_of_rule : Rule → List ℕ
name_of_rule rule.Folder = codes "FOLDER"
name_of_rule rule.Port = codes "PORT"
name_of_rule rule.Key = codes "KEY"
name_of_rule rule.Base = codes "BASE"
name_of_rule rule.Workers = codes "WORKERS"
name_of_rule rule.Authority = codes "AUTHORITY"
name_of_rule rule.Id = codes "ID"
name_of_rule rule.Token = codes "TOKEN"
name_of_rule rule.Nonce = codes "NONCE"
name_of_rule rule.User = codes "USER"
name_of_rule rule.Name = codes "NAME"
name_of_rule rule.Rights = codes "RIGHTS"
name_of_rule rule.Serial = codes "SERIAL"
name_of_rule rule.Issued = codes "ISSUED"
name_of_rule rule.Expires = codes "EXPIRES"
name_of_rule rule.Seed = codes "SEED"
name_of_rule rule.Count = codes "COUNT"
name_of_rule rule.Version = codes "VERSION"
name_of_rule rule.Journal = codes "--journal"
name_of_rule rule.Each = codes "--each"
name_of_rule rule.First = codes "--first"
name_of_rule rule.Links = codes "--links"
name_of_rule rule.Ids = codes "--ids"
name_of_rule rule.Sync = codes "--sync"
name_of_rule rule.Logs = codes "--keep"
name_of_rule rule.Origin = codes "--origin"

-- what a word is called that may stand there
unfoldable pub name_of : Next → List ℕ
name_of next.Command = codes "a command"
name_of (next.Word rule) = name_of_rule rule
name_of next.Editor = codes "the word"
name_of next.EditorOrOption = codes "an option"
name_of next.Origin = codes "the word"
name_of next.OriginOrOption = codes "an option"
name_of next.KeepOrOption = codes "an option"
name_of next.Option = codes "an option"
name_of next.End = codes "the word"
