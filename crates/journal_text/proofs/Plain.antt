-- The words of lines have no spaces and no line feeds.
use Rattle.std.proofs.Common.{◌≡◌, ℕ, ◌==◌, Bool, true, false, List, [], ◌∷◌, ◌++◌, Option, None, Some, refl, sym, subst, arith}
use Rattle.std.specs.Prelude.{codes, decimal}
use Rattle.std.specs.List.{list_all, join_with_byte}
use Rattle.std.specs.Char.{is_ascii_digit}
use Rattle.std.proofs.lemmas.List.Elements.{All-append, All-cons}
use Rattle.wopi_text.specs.LockId.{IsLockId}
use Rattle.wopi_text.specs.declared.reason.Reason.{Reason}
use Rattle.wopi_text.specs.declared.reason.Reason.TheVariants as reason
use Rattle.wopi_model.specs.User.{is_user_byte}
use Rattle.wopi_model.specs.declared.token.Token.{Token}
use Rattle.host_core.specs.declared.entry.EntryAct.{EntryAct}
use Rattle.host_core.specs.declared.entry.EntryAct.TheVariants as act
use Rattle.host_table.specs.Text.{hex_text, optional_hex, optional_number, overwrite_text, token_fields, reason_text, version_text}
use Rattle.journal_text.specs.declared.text.Format.{Format}
use Rattle.journal_text.specs.declared.text.Format.TheVariants.{First, Second}
use Rattle.journal_text.specs.declared.text.Line.{Line}
use Rattle.journal_text.specs.Lines.{AreSized, IsAct, IsBare, IsFile, IsLine, IsOpening, IsToken, Fits, MayBeLock, MayFit, told_size}
use Rattle.journal_text.specs.Words.{act_words, bare_words, end_words, file_words, first_words, last_words, line_words, now_words, token_parts}
use Rattle.journal_text.proofs.Asking.{told_fits}
use Rattle.journal_text.proofs.EntryWords.{small}
use Rattle.journal_text.proofs.Hexes.{Lacks-hex_text}
use Rattle.journal_text.proofs.Locks.{IsBytes-lock}
use Rattle.line_text.proofs.Splits.{EachLacks, Lacks, Lacks-list_all}
use Rattle.journal_text.proofs.TokenTexts.{Lacks-decimal, Lacks-id, fields-lack, joined}

-- a mark that no word has: no letter, digit, underscore, dash or period
pub record IsMark (mark : ℕ) : Type 0 where
  pub letter : is_user_byte mark ≡ false
  pub digit : is_ascii_digit mark ≡ false
  pub period : (46 == mark) ≡ false

pub space : IsMark 32
space = record { letter = refl; digit = refl; period = refl }

pub feed : IsMark 10
feed = record { letter = refl; digit = refl; period = refl }

-- ---- one word

-- a word of letters, digits, underscores and dashes
pub letters : (mark : ℕ) (word : List ℕ) → IsMark mark → list_all is_user_byte word ≡ true → Lacks mark word
letters mark word m h = Lacks-list_all mark is_user_byte word m.letter h

pub number : (mark n : ℕ) → IsMark mark → Fits n → Lacks mark (decimal n)
number mark n m h = Lacks-decimal mark n m.digit h

Lacks-cons : (mark byte : ℕ) (word : List ℕ) → (byte == mark) ≡ false → Lacks mark word → Lacks mark (byte ∷ word)
unfolding Lacks
Lacks-cons mark byte word h k = All-cons (λ b. (b == mark) ≡ false) byte word h k

pub Lacks-append : (mark : ℕ) (word more : List ℕ) → Lacks mark word → Lacks mark more → Lacks mark (word ++ more)
unfolding Lacks
Lacks-append mark word more h k = All-append (λ b. (b == mark) ≡ false) word more h k

-- words that are joined lack what each of them and the byte between them lacks
pub Lacks-join : (mark between : ℕ) (words : List (List ℕ)) → (between == mark) ≡ false → EachLacks mark words → Lacks mark (join_with_byte between words)
unfolding EachLacks
Lacks-join mark between [] h each = Lacks-list_all mark (λ b. false) [] refl refl
Lacks-join mark between (word ∷ []) h each = each.0
Lacks-join mark between (word ∷ next ∷ words) h each =
    Lacks-append mark word (between ∷ join_with_byte between (next ∷ words)) each.0
    (Lacks-cons mark between (join_with_byte between (next ∷ words)) h (Lacks-join mark between (next ∷ words) h each.1))

Lacks-token : (mark : ℕ) (token : Token) → IsMark mark → IsToken token → Lacks mark (token_fields token)
Lacks-token mark token m form =
    subst (Lacks mark) (sym (joined token)) (Lacks-join mark 46 (token_parts token) m.period (fields-lack mark token m.letter m.digit form))

pub Lacks-lock : (mark : ℕ) (id : List ℕ) → IsMark mark → IsLockId id → Lacks mark (hex_text id)
Lacks-lock mark id m form = Lacks-hex_text mark id m.letter (IsBytes-lock id form)

Lacks-optional_lock : (mark : ℕ) (lock : Option (List ℕ)) → IsMark mark → MayBeLock lock → Lacks mark (optional_hex lock)
Lacks-optional_lock mark None m form = letters mark (codes "-") m refl
Lacks-optional_lock mark (Some id) m form = Lacks-lock mark id m form

pub Lacks-optional_number : (mark : ℕ) (most : Option ℕ) → IsMark mark → MayFit most → Lacks mark (optional_number most)
Lacks-optional_number mark None m form = letters mark (codes "-") m refl
Lacks-optional_number mark (Some n) m form = number mark n m form

Lacks-overwrite : (mark : ℕ) (overwrite : Bool) → IsMark mark → Lacks mark (overwrite_text overwrite)
unfolding overwrite_text
Lacks-overwrite mark true m = letters mark (codes "yes") m refl
Lacks-overwrite mark false m = letters mark (codes "no") m refl

Lacks-reason : (mark : ℕ) (why : Option Reason) → IsMark mark → Lacks mark (reason_text why)
unfolding reason_text
Lacks-reason mark None m = letters mark (codes "-") m refl
Lacks-reason mark (Some reason.Locked) m = letters mark (codes "locked") m refl
Lacks-reason mark (Some reason.NotLocked) m = letters mark (codes "not-locked") m refl
Lacks-reason mark (Some reason.Spent) m = letters mark (codes "spent") m refl
Lacks-reason mark (Some reason.Taken) m = letters mark (codes "taken") m refl
Lacks-reason mark (Some reason.Changed) m = letters mark (codes "changed") m refl

Lacks-version : (mark : ℕ) (version : Option ℕ) → IsMark mark → MayFit version → Lacks mark (version_text version)
unfolding version_text
Lacks-version mark None m form = letters mark (codes "-") m refl
Lacks-version mark (Some n) m form = Lacks-append mark (codes "v") (decimal n) (letters mark (codes "v") m refl) (number mark n m form)

Lacks-contents : (mark : ℕ) (size : Option ℕ) (contents : Option (List ℕ)) → IsMark mark → AreSized size contents → Lacks mark (optional_hex contents)
Lacks-contents mark None None m form = letters mark (codes "-") m refl
Lacks-contents mark None (Some bytes) m form = absurd form
Lacks-contents mark (Some size) None m form = absurd form
Lacks-contents mark (Some size) (Some bytes) m form = Lacks-hex_text mark bytes m.letter form.0

-- ---- the words of lines

acts-lack : (mark : ℕ) (asked : EntryAct) → IsMark mark → IsAct asked → EachLacks mark (act_words asked)
unfolding EachLacks
acts-lack mark act.Info m form = (letters mark (codes "info") m refl, tt)
acts-lack mark (act.Get most) m form = (letters mark (codes "get") m refl, (Lacks-optional_number mark most m form, tt))
acts-lack mark (act.Put lock size) m form = (letters mark (codes "put") m refl, (Lacks-optional_lock mark lock m form.0, (number mark size m form.1, tt)))
acts-lack mark (act.Lock id) m form = (letters mark (codes "lock") m refl, (Lacks-lock mark id m form, tt))
acts-lack mark act.GetLock m form = (letters mark (codes "getlock") m refl, tt)
acts-lack mark (act.Refresh id) m form = (letters mark (codes "refresh") m refl, (Lacks-lock mark id m form, tt))
acts-lack mark (act.Unlock id) m form = (letters mark (codes "unlock") m refl, (Lacks-lock mark id m form, tt))
acts-lack mark (act.Relock old id) m form = (letters mark (codes "relock") m refl, (Lacks-lock mark old m form.0, (Lacks-lock mark id m form.1, tt)))
acts-lack mark act.Look m form = (letters mark (codes "look") m refl, tt)
acts-lack mark (act.Create overwrite size) m form = (letters mark (codes "create") m refl, (Lacks-overwrite mark overwrite m, (number mark size m form, tt)))
acts-lack mark act.Delete m form = (letters mark (codes "delete") m refl, tt)

EachLacks-append : (mark : ℕ) (words more : List (List ℕ)) → EachLacks mark words → EachLacks mark more → EachLacks mark (words ++ more)
unfolding EachLacks
EachLacks-append mark [] more h k = k
EachLacks-append mark (word ∷ words) more h k = (h.0, EachLacks-append mark words more h.1 k)

ends-lack : (form : Format) (mark : ℕ) (line : Line) → IsMark mark → IsLine form line → EachLacks mark (end_words line)
unfolding EachLacks
ends-lack form mark line m h =
    let least = small line.status h.status in (
      Lacks-token mark line.token m h.token,
      (
        number mark line.status m (omega (arith, least)),
        (
          Lacks-optional_lock mark line.lock m h.lock,
          (
            Lacks-reason mark line.reason m,
            (Lacks-version mark line.version m h.version, (Lacks-contents mark (told_size line.act line.status) line.contents m h.contents, tt)),
          ),
        ),
      ),
    )

nows-lack : (form : Format) (mark now : ℕ) → IsMark mark → Fits now → EachLacks mark (now_words form now)
unfolding EachLacks
nows-lack First mark now m h = tt
nows-lack Second mark now m h = (number mark now m h, tt)

pub line-lacks : (form : Format) (mark : ℕ) (line : Line) → IsMark mark → IsLine form line → EachLacks mark (line_words form line)
unfolding EachLacks
line-lacks form mark line m h =
    let shard = h.shard in
    let pass = h.pass in
    let moment = h.moment in
    let now = h.now in (
      number mark line.stamp m h.stamp,
      (
        number mark line.shard m (omega (arith, shard)),
        (
          number mark line.pass m (omega (arith, pass)),
          (
            number mark line.moment m (omega (arith, moment)),
            EachLacks-append mark (now_words form line.now) _ (nows-lack form mark line.now m (omega (arith, now)))
                (Lacks-id mark line.name m.letter h.name, EachLacks-append mark (act_words line.act) (end_words line) (acts-lack mark line.act m h.asked) (ends-lack form mark line m h)),
          ),
        ),
      ),
    )

pub bare-lacks : (mark : ℕ) (line : Line) → IsMark mark → IsBare line → EachLacks mark (bare_words line)
unfolding EachLacks
bare-lacks mark line m h =
    let shard = h.shard in
    let pass = h.pass in
    let moment = h.moment in
    let now = h.now in
    let least = small line.status h.status in (
      number mark line.stamp m h.stamp,
      (
        number mark line.shard m (omega (arith, shard)),
        (
          number mark line.pass m (omega (arith, pass)),
          (
            number mark line.moment m (omega (arith, moment)),
            (
              number mark line.now m (omega (arith, now)),
              (
                Lacks-id mark line.name m.letter h.name,
                EachLacks-append mark (act_words line.act) _ (acts-lack mark line.act m h.asked) (
                  Lacks-token mark line.token m h.token,
                  (
                    number mark line.status m (omega (arith, least)),
                    (
                      Lacks-optional_lock mark line.lock m h.lock,
                      (
                        Lacks-reason mark line.reason m,
                        (Lacks-version mark line.version m h.version, (Lacks-optional_number mark (told_size line.act line.status) m (told_fits line.act line.status h.asked), tt)),
                      ),
                    ),
                  ),
                ),
              ),
            ),
          ),
        ),
      ),
    )

pub file-lacks : (mark : ℕ) (file : List ℕ × List ℕ) → IsMark mark → IsFile file → EachLacks mark (file_words file)
unfolding EachLacks
file-lacks mark file m h =
    (letters mark (codes "file") m refl, (Lacks-id mark file.0 m.letter h.name, (Lacks-hex_text mark file.1 m.letter h.contents, tt)))

pub first-lacks : (form : Format) (mark opened first : ℕ) → IsMark mark → IsOpening form opened first → EachLacks mark (first_words form opened first)
unfolding EachLacks
first-lacks First mark opened first m h =
    let moment = h.0 in (
      letters mark (codes "wopi") m refl,
      (
        letters mark (codes "journal") m refl,
        (letters mark (codes "1") m refl, (letters mark (codes "opened") m refl, (number mark opened m (omega (arith, moment)), tt))),
      ),
    )
first-lacks Second mark opened first m h =
    let moment = h.0 in
    let most = h.1.1 in (
      letters mark (codes "wopi") m refl,
      (
        letters mark (codes "journal") m refl,
        (
          letters mark (codes "2") m refl,
          (
            letters mark (codes "opened") m refl,
            (number mark opened m (omega (arith, moment)), (letters mark (codes "first") m refl, (number mark first m (omega (arith, most)), tt))),
          ),
        ),
      ),
    )

pub last-lacks : (form : Format) (mark entries : ℕ) → IsMark mark → Fits entries → EachLacks mark (last_words form entries)
unfolding EachLacks
last-lacks First mark entries m h = (letters mark (codes "end") m refl, tt)
last-lacks Second mark entries m h = (letters mark (codes "end") m refl, (number mark entries m h, tt))
