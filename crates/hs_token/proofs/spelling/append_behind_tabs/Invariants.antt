use Rattle.std.proofs.Common.{◌≡◌, ◌++◌, drop}
use Rattle.hs_token.specs.Steps.{Extends}
use Rattle.hs_token.specs.Spelling.{behind_tabs}
use Rattle.hs_token.proofs.spelling.append_behind_tabs.Given as goal

abbrev pub invariant-loop-token : goal.invariant-loop-token
invariant-loop-token l = record {
  written : l.out.items ++ behind_tabs (drop l.token-index l.tokens) ≡ l.fn.out.items ++ behind_tabs l.tokens;
  front : Extends l.fn.out.items l.out.items;
}
