mod PageBack
