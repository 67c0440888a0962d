mod TermScopes
